-- What computing the spans asks for.
use Rattle.std.specs.Prelude.{◌≡◌, ℕ, suc, ◌≤◌, ◌<◌}
use Rattle.graded_circuit.specs.declared.plan.Plan.{Plan}
use Rattle.graded_circuit.specs.Plan.{Planned}
use Rattle.graded_circuit.specs.Key.{key_span}
use Rattle.graded_circuit.specs.Median.{Fits}
use Rattle.graded_circuit.specs.Contest.{contest_span}

-- For comparing the numbers of two medians in above + 1 digits: a key has `count` flags.
pub record MediansReady (count above : ℕ) : Type 0 where
  pub fits : Fits count (suc above)
  pub few : count ≤ 6
  pub narrow : above ≤ 2

-- For comparing sums of `digits` low digits, with this many grades.
pub record BelowReady (digits grades : ℕ) : Type 0 where
  pub narrow : digits ≤ 7
  pub several : 2 ≤ grades
  pub few : grades ≤ 7

-- For a group of at most `most` candidates. `contest` and `key` are the spans of a contest and a key.
pub record GroupReady (p : Plan) (contest key count most : ℕ) : Type 0 where
  pub plan : Planned p
  pub contest_is : contest ≡ contest_span p
  pub key_is : key ≡ key_span p
  pub few : count ≤ most

-- For the whole circuit: there are at least two candidates.
pub record CircuitReady (p : Plan) : Type 0 where
  pub plan : Planned p
  pub several : 1 < p.candidates

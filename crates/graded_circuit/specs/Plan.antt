-- The public numbers from which the circuit of a shape is built.
use Rattle.std.specs.Prelude.{◌≡◌, ℕ, suc, ◌+◌, ◌-◌, ◌*◌, ◌/◌, ◌^◌, ◌≤◌, ◌<◌}
use Rattle.jury.specs.declared.shape.Shape.{Shape}
use Rattle.jury.specs.Shape.{ballot_bytes, most_candidates, most_grades, most_ballots}
use Rattle.jury.specs.Width.{width_of}
use Rattle.graded_circuit.specs.declared.plan.Plan.{Plan}

-- A sum has as many digits as n: `digits` low ones and a top one. A median grade's number has as many as d − 1:
-- `places` low ones and a top one. A sum plus `offset` has the top digit 1 exactly if twice the sum is at least n.
-- The worst grade's count plus `worst`, complemented, is the sum of all other grades plus `offset`.
unfoldable pub plan_of : Shape → Plan
plan_of s =
    record {
      candidates = s.candidates;
      grades = s.grades;
      ballots = s.ballots;
      inputs = ballot_bytes s;
      digits = width_of s.ballots - 1;
      offset = 2 ^ (width_of s.ballots - 1) - (s.ballots + 1) / 2;
      worst = 2 ^ (width_of s.ballots - 1) - 1 - s.ballots / 2;
      places = width_of (s.grades - 1) - 1;
    }

-- What holds for the plan of a shape within its limits.
pub record Planned (p : Plan) : Type 0 where
  pub k_least : 1 ≤ p.candidates
  pub k_most : p.candidates ≤ most_candidates
  pub d_least : 2 ≤ p.grades
  pub d_most : p.grades ≤ most_grades
  pub n_least : 1 ≤ p.ballots
  pub n_most : p.ballots ≤ most_ballots
  pub low : 2 ^ p.digits ≤ p.ballots
  pub high : p.ballots < 2 ^ suc p.digits
  pub offset_is : p.offset + (p.ballots + 1) / 2 ≡ 2 ^ p.digits
  pub worst_is : p.worst + 1 + p.ballots / 2 ≡ 2 ^ p.digits
  pub median_low : 2 ^ p.places ≤ p.grades - 1
  pub median_high : p.grades - 1 < 2 ^ suc p.places
  pub inputs_is : p.inputs ≡ p.ballots * p.candidates * p.grades

-- Candidate c's bit of grade g in the first ballot. A ballot has each candidate's grades side by side.
abbrev pub bits_at : Plan → ℕ → ℕ → ℕ
bits_at p c g = c * p.grades + g

-- How far such bits are apart: the next one is in the next ballot.
abbrev pub ballot_stride : Plan → ℕ
ballot_stride p = p.candidates * p.grades

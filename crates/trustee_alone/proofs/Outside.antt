-- For a shape outside the limits, a trustee's calls answer reason 1 and change nothing.
-- Assumes nothing.
use mathlib.Core.Path.{◌≡◌, refl}
use mathlib.Core.Bool.{false}
use mathlib.Core.List.{List}
use Prim.Native.Nat.{ℕ}
use Rattle.jury.specs.declared.shape.Shape.{Shape}
use Rattle.jury.specs.Shape.{within_limits}
use Rattle.jury.specs.Reason.{reason_at, unless, first_of}
use Rattle.tally.specs.Answer.{refused, outcome, afterwards}
use Rattle.tally.specs.Test.{test_reasons}
use Rattle.trustee_alone.specs.Start.{start_reasons, start_outcome, started_wires, started_published, start_result}
use Rattle.trustee_alone.specs.Rounds.{round_reasons, round_outcome, rounded_wires, rounded_published, round_result}
use Rattle.trustee_alone.specs.Finish.{finish_reasons, finish_outcome, finished_wires, finish_result}

module _ (s : Shape) (w : within_limits s ≡ false) where
  pub outside_start : (table : List ℕ) (t p : ℕ) (shares triples wire_parts published : List ℕ)
      → start_result s table t p shares triples wire_parts published
      ≡ record { answer = refused (reason_at 1 0); wires = wire_parts; published = published }
  unfolding start_outcome started_wires started_published start_reasons test_reasons outcome afterwards first_of unless
  outside_start table t p shares triples wire_parts published = rw w refl

  pub outside_round : (table : List ℕ) (t p round : ℕ) (levels triples heard wire_parts published : List ℕ)
      → round_result s table t p round levels triples heard wire_parts published
      ≡ record { answer = refused (reason_at 1 0); wires = wire_parts; published = published }
  unfolding round_outcome rounded_wires rounded_published round_reasons test_reasons outcome afterwards first_of unless
  outside_round table t p round levels triples heard wire_parts published = rw w refl

  pub outside_finish : (table wire_parts : List ℕ) → finish_result s table wire_parts
      ≡ record { answer = refused (reason_at 1 0); wires = wire_parts }
  unfolding finish_outcome finished_wires finish_reasons test_reasons outcome afterwards first_of unless
  outside_finish table wire_parts = rw w refl

-- For a shape outside the limits, measure and run answer reason 1 and change nothing. `TestReasons`, `Writing` and
-- `CountReason` show the same for test, write and count.
-- Assumes nothing.
use mathlib.Core.Path.{◌≡◌, refl}
use mathlib.Core.Bool.{false}
use mathlib.Core.List.{List, []}
use Prim.Native.Nat.{ℕ}
use Rattle.jury.specs.declared.shape.Shape.{Shape}
use Rattle.jury.specs.Shape.{within_limits}
use Rattle.jury.specs.Reason.{reason_at, unless, first_of}
use Rattle.jury.specs.ClosingBytes.{eight_bytes}
use Rattle.tally.specs.Answer.{outcome, refused}
use Rattle.tally.specs.Measure.{measure_reasons, measure_outcome}
use Rattle.tally.specs.Test.{test_reasons}
use Rattle.tally.specs.Run.{run_reasons, run_result_after, run_result}
use Rattle.tally.specs.Count.{count_reason, count_reasons, closing_after, plain_closing}

module _ (s : Shape) (w : within_limits s ≡ false) where
  pub outside_measure : measure_outcome s ≡ refused (reason_at 1 0)
  unfolding measure_outcome measure_reasons outcome first_of unless
  outside_measure = rw w refl

  pub outside_run : (table ballots tape wires board : List ℕ) → run_result s table ballots tape wires board
      ≡ record { answer = refused (reason_at 1 0); wires = wires; board = board }
  unfolding run_result run_reasons run_result_after test_reasons first_of unless
  outside_run table ballots tape wires board = rw w refl

  pub outside_closing : (ballots : List ℕ) → plain_closing s ballots ≡ eight_bytes []
  unfolding plain_closing count_reason count_reasons closing_after first_of unless
  outside_closing ballots = rw w refl

-- What the status of the trustees' calls means, for any arguments.
use Rattle.std.specs.Prelude.{List, ℕ}
use Rattle.jury.specs.declared.shape.Shape.{Shape}
use Rattle.trustees.specs.Call.{Call}
use Rattle.trustees.specs.Reasons.{trustees_reason_numbers}
use Rattle.trustees.specs.Result.{trustees_result}
use Rattle.trustee_alone.specs.Start.{start_reason_numbers, start_outcome}
use Rattle.trustee_alone.specs.Rounds.{round_reason_numbers, round_outcome}
use Rattle.trustee_alone.specs.Finish.{finish_reason_numbers, finish_outcome}
use Rattle.c_answers.specs.Numbers.{tally_answer}
use Rattle.c_answers.specs.Status.{StatusReads, SizeStatus}
use Rattle.c_levels.specs.Status.{DepthStatus}
use Rattle.c_trustees.specs.Numbers.{tally_told}

pub record StatusMeans : Type 0 where
  pub trustees : (c : Call) (answer : List ℕ)
      → StatusReads trustees_reason_numbers tally_answer (trustees_result c).answer
      (tally_told (trustees_result c).answer (trustees_result c).closing) answer
  pub start : (s : Shape) (table : List ℕ) (t p : ℕ) (shares triples wires published answer : List ℕ)
      → SizeStatus start_reason_numbers answer (start_outcome s table t p shares triples wires published)
  pub round : (s : Shape) (table : List ℕ) (t p r : ℕ) (levels triples heard wires published answer : List ℕ)
      → DepthStatus round_reason_numbers answer (round_outcome s table t p r levels triples heard wires published)
  pub finish : (s : Shape) (table wires answer : List ℕ)
      → SizeStatus finish_reason_numbers answer (finish_outcome s table wires)

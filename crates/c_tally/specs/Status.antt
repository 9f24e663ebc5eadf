-- What the status of each call means, for any arguments.
use Rattle.std.specs.Prelude.{List, ℕ}
use Rattle.jury.specs.declared.shape.Shape.{Shape}
use Rattle.tally.specs.Count.{count_reason, count_reason_numbers, plain_closing}
use Rattle.tally.specs.Measure.{measure_reason_numbers, measure_outcome}
use Rattle.tally.specs.Run.{run_reason_numbers, run_result}
use Rattle.tally.specs.Test.{test_reason_numbers, test_outcome}
use Rattle.tally.specs.Write.{write_reason_numbers, write_outcome}
use Rattle.c_answers.specs.Numbers.{count_answer}
use Rattle.c_answers.specs.Status.{SizeStatus, MeasureStatus, ToldStatus}

pub record StatusMeans : Type 0 where
  pub measure : (s : Shape) (answer : List ℕ) → MeasureStatus measure_reason_numbers answer (measure_outcome s)
  pub write : (s : Shape) (table answer : List ℕ) → SizeStatus write_reason_numbers answer (write_outcome s table)
  pub test : (s : Shape) (table answer : List ℕ) → SizeStatus test_reason_numbers answer (test_outcome s table)
  pub run : (s : Shape) (table ballots tape wires board answer : List ℕ)
      → SizeStatus run_reason_numbers answer (run_result s table ballots tape wires board).answer
  pub count : (s : Shape) (ballots answer : List ℕ)
      → ToldStatus count_reason_numbers count_answer answer (count_reason s ballots) (plain_closing s ballots)

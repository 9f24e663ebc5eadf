-- What the status of a run for 64 juries means, for any arguments.
use Rattle.std.specs.Prelude.{List, ℕ}
use Rattle.c_answers.specs.Status.{SizeStatus}
use Rattle.batch.specs.Call.{Call}
use Rattle.batch.specs.Run.{batch_reason_numbers, batch_result}

pub record StatusMeans : Type 0 where
  pub run_batch : (c : Call) (answer : List ℕ) → SizeStatus batch_reason_numbers answer (batch_result c).answer

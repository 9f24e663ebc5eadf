-- What the status of the dispatcher means, for any arguments.
use Rattle.std.specs.Prelude.{List, ℕ}
use Rattle.dispatch.specs.Call.{Call}
use Rattle.dispatch.specs.Reasons.{dispatch_reason_numbers}
use Rattle.dispatch.specs.Result.{dispatch_result}
use Rattle.c_answers.specs.Status.{ToldStatus}
use Rattle.c_dispatch.specs.Numbers.{dispatch_answer}

pub record StatusMeans : Type 0 where
  pub dispatch : (c : Call) (answer : List ℕ)
      → ToldStatus dispatch_reason_numbers dispatch_answer answer (dispatch_result c).reason (dispatch_result c).rounds

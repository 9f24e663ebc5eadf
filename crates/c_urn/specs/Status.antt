-- What the status of a call on an urn means, for any arguments. A preview answers what the call itself would.
use Rattle.std.specs.Prelude.{List, ℕ}
use Rattle.jury.specs.declared.shape.Shape.{Shape}
use Rattle.urn.specs.Empty.{empty_reason_numbers, empty_outcome}
use Rattle.urn.specs.Admit.{admit_reason_numbers, admit_outcome}
use Rattle.urn.specs.Withdraw.{withdraw_reason_numbers, withdraw_outcome}
use Rattle.urn_run.specs.Run.{urn_run_reason_numbers, urn_run_result}
use Rattle.c_answers.specs.Status.{OneStatus, SizeStatus}

pub record StatusMeans : Type 0 where
  pub empty : (k d : ℕ) (table answer : List ℕ) → OneStatus empty_reason_numbers answer (empty_outcome k d table)
  pub admit : (k d : ℕ) (urn : List ℕ) (juror : ℕ) (ballot answer : List ℕ)
      → OneStatus admit_reason_numbers answer (admit_outcome k d urn juror ballot)
  pub withdraw : (k d : ℕ) (urn : List ℕ) (juror : ℕ) (answer : List ℕ)
      → OneStatus withdraw_reason_numbers answer (withdraw_outcome k d urn juror)
  pub run_urn : (s : Shape) (table urn tape wires board answer : List ℕ)
      → SizeStatus urn_run_reason_numbers answer (urn_run_result s table urn tape wires board).answer

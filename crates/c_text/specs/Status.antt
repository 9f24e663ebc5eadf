-- What the status of a call on text means, for any arguments.
use Rattle.std.specs.Prelude.{List, ℕ}
use Rattle.jury.specs.declared.shape.Shape.{Shape}
use Rattle.text.specs.Write.{text_reason_numbers, text_outcome}
use Rattle.text.specs.Read.{read_reason_numbers, read_outcome}
use Rattle.c_answers.specs.Status.{OneStatus}

pub record StatusMeans : Type 0 where
  pub write : (s : Shape) (table output answer : List ℕ)
      → OneStatus text_reason_numbers answer (text_outcome s table output)
  pub read : (s : Shape) (text output answer : List ℕ)
      → OneStatus read_reason_numbers answer (read_outcome s text output)

-- What writing and reading a text answer: a reason, or a length.
use Rattle.std.specs.Prelude.{List, ℕ, Result, Ok, Err}
use Rattle.jury.specs.Reason.{Reason, reason_at, reason_of}
use Rattle.tally.specs.Answer.{Outcome, refused, accepted}
use Rattle.text.specs.declared.answer.TextRefusal.{TextRefusal}
use Rattle.text.specs.declared.answer.TextRefusal.TheVariants.{OfList, Line, Output}

-- The number and place of each case: 23 at a malformed line, 24 if the output is too short.
unfoldable pub text_reason_of : TextRefusal → Reason
text_reason_of (OfList r) = reason_of r
text_reason_of (Line i) = reason_at 23 i
text_reason_of Output = reason_at 24 0

-- An accepted call answers how many characters or numbers it wrote.
unfoldable pub length_outcome : Result ℕ TextRefusal → Outcome ℕ
length_outcome (Ok length) = accepted length
length_outcome (Err r) = refused (text_reason_of r)

-- What a call leaves: its answer, and the output.
pub record TextResult : Type 0 where
  pub answer : Outcome ℕ
  pub output : List ℕ

-- The reasons of writing and reading a text come in the order that `TextOrder` says.
-- Assumes nothing.
use mathlib.Core.Path.{◌≡◌, sym}
use mathlib.Core.Option.{some}
use mathlib.Core.List.{List}
use Prim.Native.Nat.{ℕ}
use Rattle.jury.specs.declared.shape.Shape.{Shape}
use Rattle.jury.specs.Reason.{Reason, first_of}
use Rattle.tally.specs.Answer.{refused}
use Rattle.tally.proofs.TestReasons.{test_passed}
use Rattle.text.specs.Write.{text_reasons, text_outcome}
use Rattle.text.specs.Read.{read_reasons, read_outcome}
use Rattle.text.specs.Order.{WriteOrder, ReadOrder, TextOrder}
use Rattle.text.proofs.Reasons.{text_of_list, text_short, text_good, text_refused, text_accepted}
use Rattle.text.proofs.Reasons.{shape_outside, too_few, too_many, other_line, bad_gate, numbers_short, numbers_good}
use Rattle.text.proofs.Reasons.{read_refused, read_accepted}

write_order : (s : Shape) (table output : List ℕ) → WriteOrder s table output
write_order s table output =
    record {
      of_list = λ r e. refuses r (text_of_list s table output r e);
      short = λ size e h. refuses _ (text_short s table output (test_passed s table size e).reasons h);
      accepts = λ size e h.
          sym (text_accepted s table output (text_good s table output (test_passed s table size e).reasons h)).0;
    }
  where
    refuses : (r : Reason) → first_of (text_reasons s table output) ≡ some r → text_outcome s table output ≡ refused r
    refuses r e = sym (text_refused s table output r e).0

read_order : (s : Shape) (text output : List ℕ) → ReadOrder s text output
read_order s text output =
    record {
      other_shape = λ w. refuses _ (shape_outside s text output w);
      too_few = λ w h. refuses _ (too_few s text output w h);
      too_many = λ w e h. refuses _ (too_many s text output w e h);
      malformed = λ i l e. refuses _ (other_line s text output l.within l.enough l.few i e);
      bad_gate = λ g l e b. refuses _ (bad_gate s text output l.within l.enough l.few e g b);
      short = λ l h. refuses _ (numbers_short s text output l.lines.within l.lines.enough l.lines.few l.well_formed l.good h);
      accepts = λ l h.
          sym (read_accepted s text output
          (numbers_good s text output l.lines.within l.lines.enough l.lines.few l.well_formed l.good h)).0;
    }
  where
    refuses : (r : Reason) → first_of (read_reasons s text output) ≡ some r → read_outcome s text output ≡ refused r
    refuses r e = sym (read_refused s text output r e).0

pub text_order : TextOrder
text_order = record { write = write_order; read = read_order }

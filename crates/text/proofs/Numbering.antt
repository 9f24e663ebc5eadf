-- A refusal of writing or reading has one of the numbers of that call.
-- Assumes nothing.
use mathlib.Core.Path.{◌≡◌}
use mathlib.Core.List.{List}
use Prim.Native.Nat.{ℕ, ◌*◌}
use lib.Dec.{T}
use lib.ListN.{length}
use Rattle.basics.specs.Lists.{all, member}
use Rattle.gates.specs.Gate.{gates_of}
use Rattle.jury.specs.declared.shape.Shape.{Shape}
use Rattle.jury.specs.Reason.{Reason, reason_at}
use Rattle.tally.specs.Answer.{refused, has_number_in}
use Rattle.tally.specs.Test.{test_reasons, test_reason_numbers}
use Rattle.tally.proofs.Numbering.{All, refused_number, both, unless_fine, found_fine, wider, test_all}
use Rattle.text.specs.Text.{text_of, lines_of}
use Rattle.text.specs.Write.{text_reasons, text_reason_numbers, text_outcome}
use Rattle.text.specs.Read.{read_reasons, read_reason_numbers, read_outcome}

pub text_number : (s : Shape) (table output : List ℕ) (r : Reason) → text_outcome s table output ≡ refused r
    → T (has_number_in text_reason_numbers r)
unfolding text_outcome text_reasons All all member reason_at
text_number s table output =
    let ns = text_reason_numbers in
    refused_number ns (text_reasons s table output) (length (text_of (gates_of table)))
    (both ns (test_reasons s table) _ (wider test_reason_numbers ns tt (test_reasons s table) (test_all s table)) (unless_fine ns _ 24 tt, tt))

pub read_number : (s : Shape) (text output : List ℕ) (r : Reason) → read_outcome s text output ≡ refused r
    → T (has_number_in read_reason_numbers r)
unfolding read_outcome read_reasons All member reason_at
read_number s text output =
    let ns = read_reason_numbers in
    refused_number ns (read_reasons s text output) (4 * length (lines_of text)) (
      unless_fine ns _ 1 tt,
      (
        unless_fine ns _ 2 tt,
        (found_fine ns 23 _ (λ i. tt), (found_fine ns 3 _ (λ g. tt), (unless_fine ns _ 24 tt, tt))),
      ),
    )

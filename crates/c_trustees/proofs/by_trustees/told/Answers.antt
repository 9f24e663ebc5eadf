-- `c_trustees::by_trustees::told` meets its contract: G and C come first, then the eight closing bytes.
use Rattle.std.proofs.Common.{◌≡◌, ◌∙◌, ap, List, ◌∷◌, ◌++◌, ℕ, ◌+◌, length, replicate, append-nil, drop_of_length-le, arith}
use Rattle.c_answers.proofs.Copying.{all_put}
use Rattle.c_trustees.proofs.by_trustees.told.Goals as goal

pub returns : goal.returns
returns c =
    let g = c.args.tallied.size.gates in
    let m = c.args.tallied.size.conditional in
    let closing = c.args.tallied.closing in
    let copied = c.copy.ensures ∙ c.numbers.ensures in
    let eight : length closing ≡ 8 = omega (arith, ap length c.numbers.ensures) in
    all_put g m closing (replicate 10 0) c.copy.new.to 8 (omega arith) copied (omega (arith, eight))
    ∙ ap (λ (l : List ℕ). (g ∷ m ∷ closing) ++ l) (drop_of_length-le (replicate 10 0) {i = 2 + length closing} (omega (arith, eight)))
    ∙ append-nil (g ∷ m ∷ closing)

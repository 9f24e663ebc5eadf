-- Blocks one after the other: their lengths add up, and they are well-formed if each is from its own wire on.
-- Assumes nothing.
use mathlib.Core.Path.{◌≡◌, ◌∙◌, refl, ap, sym, subst}
use mathlib.Core.List.{List, [], ◌∷◌, ◌++◌}
use Prim.Native.Nat.{ℕ, suc, ◌+◌, ◌≤◌, ◌<◌}
use native.Mathlib.Omega.{arith}
use lib.Dec.{T}
use lib.ListN.{length, length-append}
use Rattle.gates.specs.Gate.{Gate}
use Rattle.gates.specs.Test.{good_gate}
use Rattle.gates.specs.Kind.{operands_of, kind_count}
use Rattle.gates.proofs.Laws.{AllGood, good_append, operand_counts_lem}
use Rattle.gate_words.specs.Word.{Below}
use Rattle.gate_words.specs.Halves.{unequal_cut, unequal_span, compare_cut, compare_span}
use Rattle.gate_words.specs.Reach.{reach, reach_span}
use Rattle.gate_words.specs.Choice.{choose, parity}
use Rattle.gate_words.specs.Rows.{xor_rows}
use Rattle.gate_words.specs.Counter.{count_levels, count_digits_as, count_size, Countable}
use Rattle.gate_words.proofs.ChoiceSteps.{length_choose, length_chain}
use Rattle.gate_words.proofs.HalvesLaws.{length_unequal_cut, unequal_cut_good, length_compare_cut, compare_cut_good}
use Rattle.gate_words.proofs.ReachLaws.{length_reach, reach_good}
use Rattle.gate_words.proofs.RowLaws.{length_rows, rows_good}
use Rattle.gate_words.proofs.CounterSteps.{length_count, length_digits}
use Rattle.gate_words.proofs.PointsBack.{choose_good, chain_good, count_levels_good, count_digits_good}

-- a block of m gates that is well-formed if its first gate is wire n
pub record Block (n : ℕ) (gs : List Gate) (m : ℕ) : Type 0 where
  pub long : length gs ≡ m
  pub good : AllGood n gs

pub none_block : (n : ℕ) → Block n [] 0
none_block n = record { long = refl; good = tt }

pub both_block : {n k l m : ℕ} {gs hs : List Gate} → Block n gs l → n + l ≡ k → Block k hs m → Block n (gs ++ hs) (l + m)
both_block {n} {k} {l} {m} {gs} {hs} a e b =
    record {
      long = omega (arith, length-append gs hs, a.long, b.long);
      good = good_append n gs hs a.good (subst (λ (i : ℕ). AllGood i hs) (sym (ap (λ (i : ℕ). n + i) a.long ∙ e)) b.good);
    }

pub sized : {n l m : ℕ} {gs : List Gate} → l ≡ m → Block n gs l → Block n gs m
sized {n} {l} {m} {gs} e a = subst (Block n gs) e a

-- a gate before a block
pub gate_block : {n m : ℕ} {g : Gate} {gs : List Gate} → T (good_gate n g) → Block (suc n) gs m → Block n (g ∷ gs) (suc m)
gate_block {n} {m} {g} {gs} t a = record { long = ap suc a.long; good = (t, a.good) }

-- the same block, with its first wire written differently
pub from_wire : {n k m : ℕ} {gs : List Gate} → n ≡ k → Block n gs m → Block k gs m
from_wire {n} {k} {m} {gs} e a = subst (λ (i : ℕ). Block i gs m) e a

pub choose_block : (n f x y w : ℕ) → f < n → x + w ≤ n → y + w ≤ n → Block n (choose f x y w) w
choose_block n f x y w hf hx hy = record { long = length_choose f x y w; good = choose_good n f x y w hf hx hy }

pub unequal_block : (n x y r h : ℕ) → h ≤ r → x + suc r ≤ n → y + suc r ≤ n → Block n (unequal_cut n x y r h) (unequal_span r)
unequal_block n x y r h q hx hy = record { long = length_unequal_cut n x y r h q; good = unequal_cut_good n x y r h q hx hy }

pub compare_block : (n x y r h : ℕ) → h ≤ r → x + suc r ≤ n → y + suc r ≤ n → Block n (compare_cut n x y r h) (compare_span r)
compare_block n x y r h q hx hy = record { long = length_compare_cut n x y r h q; good = compare_cut_good n x y r h q hx hy }

pub reach_block : (n x y e r : ℕ) → x + suc r ≤ n → y + suc r ≤ n → Block n (reach n x y e r) (reach_span r)
reach_block n x y e r hx hy = record { long = length_reach n x y e r; good = reach_good n x y e r hx hy }

pub parity_block : (n s at d m : ℕ) → s < n → Below n at d m → Block n (parity n s at d m) m
parity_block n s at d m hs bl =
    record { long = length_chain 6 n s at d m; good = chain_good n 6 s at d m (omega arith) operand_counts_lem.6 hs bl }

pub rows_block : (n x dx y dy m : ℕ) → Below n x dx m → Below n y dy m → Block n (xor_rows x dx y dy m) m
rows_block n x dx y dy m hx hy = record { long = length_rows x dx y dy m; good = rows_good n x dx y dy m hx hy }

pub levels_block : (n at d m x r : ℕ) → Below n at d m → Countable m x r → Block n (count_levels n at d m x r) (count_size m x r)
levels_block n at d m x r bl k = record { long = length_count n at d m x r; good = count_levels_good n at d m x r bl k }

pub digits_block : (low top n at m x r q : ℕ) → low < kind_count → operands_of low ≡ 1 → top < kind_count → operands_of top ≡ 1 → at < q
    → n + count_size m x r ≤ q → Countable m x r
    → Block q (count_digits_as low top n at m x r) (r + 1)
digits_block low top n at m x r q l₁ l₂ t₁ t₂ ha h k =
    record { long = length_digits low top n at m x r; good = count_digits_good low top n at m x r q l₁ l₂ t₁ t₂ ha h k }

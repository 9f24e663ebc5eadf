-- The bits of a grade add up to its count. Of a candidate's bits in one ballot, exactly one is 1.
-- Assumes nothing.
use mathlib.Core.Path.{◌≡◌, ◌∙◌, sym, ap}
use mathlib.Core.List.{List}
use Prim.Native.Nat.{ℕ, zero, suc, ◌+◌, ◌*◌, ◌≤◌, ◌<◌}
use native.Mathlib.Nat.{zero-mul, suc-mul, add-mul, mul_assoc}
use native.Mathlib.Omega.{arith}
use lib.ListN.{get_or, drop}
use lib.Seq.{get_or-drop}
use Rattle.gates.specs.Wires.{wire, wires_of}
use Rattle.gates.specs.Gate.{Gate}
use Rattle.gates.proofs.Laws.{wires_start}
use Rattle.jury.specs.declared.shape.Shape.{Shape}
use Rattle.basics.specs.Lists.{sum, tabulate}
use Rattle.jury.specs.Counts.{count_of}
use Rattle.jury.specs.Accepted.{GradedBallots}
use Rattle.basics.proofs.Sums.{sum_none, sum_first}
use Rattle.basics.proofs.Tabulate.{tabulate_cong}
use Rattle.basics.proofs.Arithmetic.{row_within}
use Rattle.jury.proofs.Sums.{addend, sum_ones}
use Rattle.jury.proofs.CountLaws.{bit_added}
use Rattle.jury.proofs.CountFacts.{column_bytes, byte_within}
use Rattle.gate_words.specs.Word.{ones_at}
use Rattle.gate_words.proofs.Numbers.{ones_none, ones_more}

ones_table : (W : ℕ → ℕ) (at d m : ℕ) → ones_at W at d m ≡ sum (tabulate m (λ i. W (at + i * d)))
ones_table W at d zero = ones_none W at d ∙ sym (sum_none (λ i. W (at + i * d)))
ones_table W at d (suc m) =
    let here : at + 0 * d ≡ at = omega (arith, zero-mul d) in
    ones_more W at d m
    ∙ ap (λ (k : ℕ). W at + k) (ones_table W (at + d) d m
    ∙ ap sum (tabulate_cong m (λ i. W (at + d + i * d)) (λ i. W (at + suc i * d)) (λ i l. ap W (next i))))
    ∙ ap (λ (k : ℕ). W k + sum (tabulate m (λ i. W (at + suc i * d)))) (sym here)
    ∙ sym (sum_first m (λ i. W (at + i * d)))
  where
    next : (i : ℕ) → at + d + i * d ≡ at + suc i * d
    next i = omega (arith, suc-mul i d)

place : (i k c d g : ℕ) → (i * k + c) * d + g ≡ c * d + g + i * (k * d)
place i k c d g = omega (arith, add-mul (i * k) c d, mul_assoc i k d)

-- accepted ballots, whatever gates follow them
module _ (s : Shape) (xs : List ℕ) (gs : List Gate) (a : GradedBallots s xs) where
  byte : (i c g : ℕ) → i < s.ballots → c < s.candidates → g < s.grades
      → wire (wires_of xs gs) (c * s.grades + g + i * (s.candidates * s.grades)) ≡ get_or xs ((i * s.candidates + c) * s.grades + g) 0
  byte i c g l hc hg =
      let e = place i s.candidates c s.grades g in
      ap (wire (wires_of xs gs)) (sym e)
      ∙ wires_start xs gs ((i * s.candidates + c) * s.grades + g)
      (omega (arith, a.size, byte_within s i c g l hc hg))

  pub column : (c g : ℕ) → c < s.candidates → g < s.grades
      → ones_at (wire (wires_of xs gs)) (c * s.grades + g) (s.candidates * s.grades) s.ballots ≡ count_of s xs c g
  column c g hc hg =
      ones_table (wire (wires_of xs gs)) (c * s.grades + g) (s.candidates * s.grades) s.ballots
      ∙ ap sum (tabulate_cong s.ballots _ _ (λ i l. byte i c g l hc hg))
      ∙ sym (column_bytes s xs a c g)

  pub one_grade : (c i : ℕ) → c < s.candidates → i < s.ballots
      → sum (tabulate s.grades (λ g. wire (wires_of xs gs) (c * s.grades + g + i * (s.candidates * s.grades)))) ≡ 1
  one_grade c i hc l =
      ap sum (tabulate_cong s.grades _ _ (λ g hg. bit g hg))
      ∙ sum_ones s.grades (drop (row * s.grades) xs)
      ∙ a.rows row (omega (arith, row_within i s.ballots s.candidates l))
    where
      row : ℕ
      row = i * s.candidates + c

      bit : (g : ℕ) → g < s.grades → wire (wires_of xs gs) (c * s.grades + g + i * (s.candidates * s.grades))
          ≡ addend (get_or (drop (row * s.grades) xs) g 0)
      bit g hg =
          byte i c g l hc hg
          ∙ sym (added (get_or xs (row * s.grades + g) 0) (a.bits (row * s.grades + g)))
          ∙ ap addend (sym (get_or-drop (row * s.grades) xs g 0))
        where
          added : (x : ℕ) → x ≤ 1 → addend x ≡ x
          added x h = unfold addend in (bit_added x h)

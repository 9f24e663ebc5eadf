-- Rows of gates that say whether one of the others beats a candidate.
-- Assumes nothing.
use mathlib.Core.Path.{◌≡◌, ◌∙◌, refl, sym, ap}
use mathlib.Core.Bool.{Bool, cond}
use mathlib.Core.Logic.{⊎_elim, ◌≢◌}
use mathlib.Core.List.{List, [], ◌∷◌}
use Prim.Native.Nat.{ℕ, zero, suc, max, ◌+◌, ◌-◌, ◌*◌, ◌/◌, ◌%◌, ◌≤◌, ◌<◌}
use native.Mathlib.Omega.{arith}
use lib.ListN.{length}
use borrow.Author.Tests.{lt-ltb, le-ltb}
use Rattle.gates.specs.Gate.{Gate}
use Rattle.gates.proofs.Laws.{AllGood, Holds, good_two, operand_counts_lem}
use Rattle.gate_words.specs.Gates.{or_of}
use Rattle.gate_words.proofs.Laws.{Binary}
use Rattle.gate_words.proofs.GateValues.{or_is}
use Rattle.basics.proofs.Cases.{below_or_not}
use Rattle.ranked_circuit.specs.RankedList.{other, joined_wire, loser_row}
use Rattle.ranked_circuit.proofs.TableLaws.{start_of, length_same, block_holds, blocks_good}

-- the others are exactly the candidates that are not i
other_below : (i s : ℕ) → s < i → other i s ≡ s
unfolding other
other_below i s h = ap (λ (t : Bool). cond t s (suc s)) (lt-ltb s i h)

other_above : (i s : ℕ) → i ≤ s → other i s ≡ suc s
unfolding other
other_above i s h = ap (λ (t : Bool). cond t s (suc s)) (le-ltb s i h)

pub other_apart : (i s : ℕ) → other i s ≢ i
other_apart i s e = ⊎_elim (λ (l : s < i). omega (arith, other_below i s l))
    (λ (l : i ≤ s). omega (arith, other_above i s l)) (below_or_not s i)

pub other_low : (i s m : ℕ) → s ≤ m → other i s < suc (suc m)
other_low i s m h = ⊎_elim (λ (l : s < i). omega (arith, other_below i s l))
    (λ (l : i ≤ s). omega (arith, other_above i s l)) (below_or_not s i)

pub other_found : (i j m : ℕ) → i < suc (suc m) → j < suc (suc m) → j ≢ i → (s : ℕ) × (s ≤ m) × (other i s ≡ j)
other_found i j m hi hj ne =
    ⊎_elim (λ (l : j < i). (j, omega arith, other_below i j l))
    (λ (l : i ≤ j). (j - 1, omega arith, (let e = other_above i (j - 1) (omega arith) in omega arith)))
    (below_or_not j i)

module _ (beats : ℕ → ℕ → ℕ) (r at i : ℕ) where
  -- operand s of the row
  abbrev item : ℕ → ℕ
  item s = joined_wire beats (suc r) at i s

  item_other : (s : ℕ) → s ≤ r → item s ≡ beats (other i s) i
  unfolding joined_wire
  item_other s h = ap (λ (t : Bool). cond t (beats (other i s) i) (at + (s - suc r))) (lt-ltb s (suc r) (omega arith))

  item_own : (t : ℕ) → item (suc r + t) ≡ at + t
  unfolding joined_wire
  item_own t = ap (λ (c : Bool). cond c (beats (other i (suc r + t)) i) (at + (suc r + t - suc r)))
      (le-ltb (suc r + t) (suc r) (omega arith)) ∙ omega arith

  abbrev row_gate : ℕ → ℕ → List Gate
  row_gate wire t = or_of (item (2 * t)) (item (2 * t + 1)) ∷ []

  pub row_length : length (loser_row beats r at i) ≡ r
  unfolding loser_row
  row_length = omega (arith, length_same at row_gate 1 (λ wire t. refl) r)

  row_start : (t : ℕ) → start_of at row_gate t ≡ at + t
  row_start t = omega (arith, length_same at row_gate 1 (λ wire t. refl) t)

  -- the operands of a gate are before it
  pub item_before : (wire t s : ℕ) → s < suc r + t → at + t ≤ wire → ((s : ℕ) → s ≤ r → beats (other i s) i < wire) → item s < wire
  item_before wire t s h l below =
      ⊎_elim (λ (q : s < suc r). omega (arith, item_other s (omega arith), below s (omega arith)))
      (λ (q : suc r ≤ s). let own = item_own (s - suc r) in let e : suc r + (s - suc r) ≡ s = omega arith in
      omega (arith, ap item e)) (below_or_not s (suc r))

  pub row_good : ((s : ℕ) → s ≤ r → beats (other i s) i < at) → AllGood at (loser_row beats r at i)
  unfolding loser_row
  row_good below =
      blocks_good at row_gate r
      (λ t l.
      let start = row_start t in
      let wire = start_of at row_gate t in
      let low : (s : ℕ) → s ≤ r → beats (other i s) i < wire = λ s q. omega (arith, below s q) in (
        good_two wire 5 (item (2 * t)) (item (2 * t + 1)) (omega arith) operand_counts_lem.5
            (item_before wire t (2 * t) (omega arith) (omega arith) low)
            (item_before wire t (2 * t + 1) (omega arith) (omega arith) low),
        tt,
      ))

  module _ (W : ℕ → ℕ) (b : Binary W) (h : Holds W at (loser_row beats r at i)) where
    gate_is : (t : ℕ) → t < r → W (item (suc r + t)) ≡ max (W (item (2 * t))) (W (item (2 * t + 1)))
    unfolding loser_row
    gate_is t l =
        ap W (item_own t ∙ sym (row_start t)) ∙ (block_holds at row_gate W r t l h).0 ∙ or_is W b (item (2 * t)) (item (2 * t + 1))

    -- if nobody beats i, all operands are 0; `fuel` bounds s
    none_joined : ((s : ℕ) → s ≤ r → W (beats (other i s) i) ≡ 0) → (fuel s : ℕ) → s < fuel → s ≤ 2 * r → W (item s) ≡ 0
    none_joined none zero s f l = absurd (omega arith)
    none_joined none (suc fuel) s f l =
        ⊎_elim (λ (q : s < suc r). ap W (item_other s (omega arith)) ∙ none s (omega arith))
        (λ (q : suc r ≤ s).
        let t = s - suc r in
        let e : suc r + t ≡ s = omega arith in
        let g = gate_is t (omega arith) in
        sym (ap (λ (x : ℕ). W (item x)) e)
        ∙ omega (
          arith,
          g,
          none_joined none fuel (2 * t) (omega arith) (omega arith),
          none_joined none fuel (2 * t + 1) (omega arith) (omega arith),
        ))
        (below_or_not s (suc r))

    pub lost_zero : ((s : ℕ) → s ≤ r → W (beats (other i s) i) ≡ 0) → W (item (2 * r)) ≡ 0
    lost_zero none = none_joined none (suc (2 * r)) (2 * r) (omega arith) (omega arith)

    -- if somebody beats i, the result is 1: each operand is joined into a later one
    some_joined : (fuel s : ℕ) → 2 * r ≤ s + fuel → s ≤ 2 * r → W (item s) ≡ 1 → W (item (2 * r)) ≡ 1
    some_joined zero s f l e = let q : s ≡ 2 * r = omega arith in ap (λ (x : ℕ). W (item x)) (sym q) ∙ e
    some_joined (suc fuel) s f l e =
        ⊎_elim (λ (q : s < 2 * r).
        let t = s / 2 in
        let g = gate_is t (omega arith) in
        some_joined fuel (suc r + t) (omega arith) (omega arith)
        (⊎_elim (λ (p : s % 2 < 1). let x : s ≡ 2 * t = omega arith in
        omega (arith, g, b (item (2 * t + 1)), ap (λ (y : ℕ). W (item y)) x))
        (λ (p : 1 ≤ s % 2). let x : s ≡ 2 * t + 1 = omega arith in
        omega (arith, g, b (item (2 * t)), ap (λ (y : ℕ). W (item y)) x)) (below_or_not (s % 2) 1)))
        (λ (q : 2 * r ≤ s). let q : s ≡ 2 * r = omega arith in ap (λ (x : ℕ). W (item x)) (sym q) ∙ e) (below_or_not s (2 * r))

    pub lost_one : (s : ℕ) → s ≤ r → W (beats (other i s) i) ≡ 1 → W (item (2 * r)) ≡ 1
    lost_one s l e = some_joined (2 * r) s (omega arith) (omega arith) (ap W (item_other s l) ∙ e)

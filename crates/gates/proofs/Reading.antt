-- Tables and lists read gate by gate: what the layers above use. They unfold none of the gate layer's definitions.
-- Assumes nothing.
use Rattle.std.specs.Prelude.{Some, None}
use mathlib.Core.Path.{◌≡◌, ◌∙◌, refl, sym, ap}
use mathlib.Core.Bool.{Bool, true, false, cond, ◌&&◌}
use mathlib.Core.List.{List, [], ◌∷◌}
use Prim.Native.Nat.{ℕ, suc, ◌+◌, ◌*◌, ◌%◌, ◌<◌}
use native.Mathlib.Omega.{arith}
use lib.Dec.{T, ltb, eqb→eq}
use lib.ListN.{length, get_or}
use borrow.Author.Tests.{ltb-true, lt-ltb, eq-eqb}
use Rattle.gates.specs.Open.Kind.{kind_count, operands_of}
use Rattle.gates.specs.Open.Gate.{Gate, gates_of, numbers_of, gate_at}
use Rattle.gates.specs.Open.Test.{good_operand, good_gate, first_bad}
use Rattle.gates.proofs.Goodness.{and_left, and_right, good_gate_lem}

-- gate g by its four numbers
pub gate_numbers : (t : List ℕ) (g : ℕ) → gate_at t g
    ≡ record { kind = get_or t (4 * g) 0; a = get_or t (4 * g + 1) 0; b = get_or t (4 * g + 2) 0; c = get_or t (4 * g + 3) 0 }
unfolding gate_at
gate_numbers t g = refl

pub numbers_cons : (g : Gate) (gs : List Gate) → numbers_of (g ∷ gs) ≡ g.kind ∷ g.a ∷ g.b ∷ g.c ∷ numbers_of gs
unfolding numbers_of
numbers_cons g gs = refl

-- a table of whole gates is the numbers of its gates
pub whole_table : (t : List ℕ) → length t % 4 ≡ 0 → numbers_of (gates_of t) ≡ t
unfolding gates_of numbers_of
whole_table [] h = refl
whole_table (k ∷ []) h = absurd (omega arith)
whole_table (k ∷ a ∷ []) h = absurd (omega arith)
whole_table (k ∷ a ∷ b ∷ []) h = absurd (omega arith)
whole_table (k ∷ a ∷ b ∷ c ∷ t) h = ap (λ (l : List ℕ). k ∷ a ∷ b ∷ c ∷ l) (whole_table t (omega arith))

-- the first bad gate, gate by gate
pub first_bad_nil : (inputs g : ℕ) → first_bad inputs g [] ≡ None
unfolding first_bad
first_bad_nil inputs g = refl

pub first_bad_cons : (inputs g : ℕ) (x : Gate) (xs : List Gate) → first_bad inputs g (x ∷ xs)
    ≡ cond (good_gate (inputs + g) x) (first_bad inputs (suc g) xs) (Some g)
unfolding first_bad
first_bad_cons inputs g x xs = refl

-- an unused operand of a good gate is 0
pub record Unused (g : Gate) : Type 0 where
  pub a_zero : ltb 0 (operands_of g.kind) ≡ false → g.a ≡ 0
  pub b_zero : ltb 1 (operands_of g.kind) ≡ false → g.b ≡ 0
  pub c_zero : ltb 2 (operands_of g.kind) ≡ false → g.c ≡ 0

unused_zero : (used : Bool) (own x : ℕ) → T (good_operand used own x) → used ≡ false → x ≡ 0
unfolding good_operand
unused_zero true own x t e = let z : ◌≡◌ {A = ℕ} 0 1 = cc in absurd (omega arith)
unused_zero false own x t e = eqb→eq x 0 t

pub good_unused : (own : ℕ) (g : Gate) → T (good_gate own g) → Unused g
unfolding good_gate
good_unused own g t =
    let n = operands_of g.kind in
    let k = ltb g.kind kind_count in
    let x = good_operand (ltb 0 n) own g.a in
    let y = good_operand (ltb 1 n) own g.b in
    let z = good_operand (ltb 2 n) own g.c in
    let tkxy = and_left (k && x && y) z t in
    record {
      a_zero = unused_zero (ltb 0 n) own g.a (and_right k x (and_left (k && x) y tkxy));
      b_zero = unused_zero (ltb 1 n) own g.b (and_right (k && x) y tkxy);
      c_zero = unused_zero (ltb 2 n) own g.c (and_right (k && x && y) z t);
    }

-- if the unused operands are 0, a gate of a known kind is good exactly if all its operands are below its own wire
below_by : (used : Bool) (own x : ℕ) → 0 < own → (used ≡ false → x ≡ 0) → good_operand used own x ≡ ltb x own
unfolding good_operand
below_by true own x pos h = refl
below_by false own x pos h =
    let z = h refl in
    eq-eqb x 0 z ∙ sym (lt-ltb x own (omega arith))

pub good_by : (own : ℕ) (g : Gate) → 0 < own → g.kind < kind_count → Unused g → good_gate own g
    ≡ (ltb g.a own && ltb g.b own && ltb g.c own)
unfolding good_gate
good_by own g pos known u =
    let n = operands_of g.kind in
    rw (
      lt-ltb g.kind kind_count known,
      below_by (ltb 0 n) own g.a pos u.a_zero,
      below_by (ltb 1 n) own g.b pos u.b_zero,
      below_by (ltb 2 n) own g.c pos u.c_zero,
    )

-- all operands of a good gate are below its own wire, unless that is wire 0: an unused operand is 0
pub record Below (own : ℕ) (g : Gate) : Type 0 where
  pub a_below : g.a < own
  pub b_below : g.b < own
  pub c_below : g.c < own

operand_below : (own x i n : ℕ) → 0 < own → (i < n → x < own) → (ltb i n ≡ false → x ≡ 0) → x < own
operand_below own x i n pos used unused = go (ltb i n) refl
  where
    go : (b : Bool) → ltb i n ≡ b → x < own
    go true e = used (ltb-true i n e)
    go false e = omega (arith, unused e)

pub operands_below : (own : ℕ) (g : Gate) → 0 < own → T (good_gate own g) → Below own g
operands_below own g pos good =
    let f = good_gate_lem own g good in
    let u = good_unused own g good in
    record {
      a_below = operand_below own g.a 0 (operands_of g.kind) pos f.a_below u.a_zero;
      b_below = operand_below own g.b 1 (operands_of g.kind) pos f.b_below u.b_zero;
      c_below = operand_below own g.c 2 (operands_of g.kind) pos f.c_below u.c_zero;
    }

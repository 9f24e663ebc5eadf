-- `gates::list::gate_is_good` meets its contract: it makes the tests of the definition. From 2^32 inputs on, every
-- 32-bit operand is below the gate's own wire, as it is with 2^32 inputs.
-- Assumes nothing.
use mathlib.Core.Path.{◌≡◌, ◌∙◌, refl, sym, ap}
use mathlib.Core.Bool.{Bool, true, false, ◌&&◌, not}
use Prim.Native.Nat.{ℕ, ◌+◌, ◌≤◌, ◌<◌, min}
use mathlib.Core.Logic.{⊎_elim}
use native.Mathlib.Omega.{arith}
use lib.Dec.{eqb, ltb}
use borrow.Author.Tests.{lt-ltb, le-ltb}
use Rattle.basics.proofs.Cases.{below_or_not}
use Rattle.std.specs.Prelude.{Option}
use Rattle.std.specs.Option.{is_some}
use Rattle.gates.specs.Open.Kind.{kind_count, operands_of, applied}
use Rattle.gates.specs.Open.Test.{good_operand, good_gate}
use Rattle.gates.proofs.Applying.{some_known}
use Rattle.gates.proofs.list.gate_is_good.Goals as goal

-- the test of a gate from the tests of its parts
parts : (own kind a b c count : ℕ) (k x y z : Bool) → ltb kind kind_count ≡ k → count ≡ operands_of kind
    → x ≡ good_operand (ltb 0 count) own a → y ≡ good_operand (ltb 1 count) own b
    → z ≡ good_operand (ltb 2 count) own c
    → (k && x && y && z) ≡ good_gate own (record { kind = kind; a = a; b = b; c = c })
unfolding good_gate
parts own kind a b c count k x y z ek ec ex ey ez = rw (← ec, ek, ← ex, ← ey, ← ez)

-- whether the kind is known, from the answer of `apply`
known : (kind : ℕ) (v : Option ℕ) (unknown t : Bool) → is_some v ≡ not unknown → v ≡ applied kind 0 0 0 → unknown ≡ t
    → ltb kind kind_count ≡ not t
known kind v unknown t s e u = sym (some_known kind 0 0 0) ∙ ap is_some (sym e) ∙ s ∙ ap not u

-- an operand that is in use, tested by a bound that tests it as `own` does, and one that is not in use
used : (i count bound own x : ℕ) (t : Bool) → i < count → ltb x bound ≡ ltb x own → ltb x bound ≡ t
    → t ≡ good_operand (ltb i count) own x
unfolding good_operand
used i count bound own x t h e r = sym r ∙ e ∙ sym (ap (λ (u : Bool). good_operand u own x) (lt-ltb i count h))

unused : (i count own x : ℕ) → count ≤ i → eqb x 0 ≡ good_operand (ltb i count) own x
unfolding good_operand
unused i count own x h = sym (ap (λ (u : Bool). good_operand u own x) (le-ltb i count h))

-- a 32-bit operand is below the sum with at most 2^32 inputs exactly if it is below the sum
below_own : (inputs g few x : ℕ) → few ≡ min inputs 4294967296 → x < 4294967296 → ltb x (few + g) ≡ ltb x (inputs + g)
below_own inputs g few x e small = ⊎_elim
    (λ l. lt-ltb x (few + g) (omega (arith, e, l)) ∙ sym (lt-ltb x (inputs + g) l))
    (λ l. le-ltb x (few + g) (omega (arith, e, l)) ∙ sym (le-ltb x (inputs + g) l))
    (below_or_not x (inputs + g))

pub returns-then-is_none : goal.returns-then-is_none
returns-then-is_none c = let a = c.args in
    let g = a.gate in
    parts (a.inputs + a.g) g.kind g.a g.b g.c _ false _ _ _
    (known g.kind _ _ true c.is_none.ensures c.apply.ensures c.if-is_none.true) refl refl refl refl

pub returns-then-count-eq0 : goal.returns-then-count-eq0
returns-then-count-eq0 c = let a = c.args in
    let g = a.gate in
    let n = c.operands-count.result in
    c.are_zero.ensures
    ∙ parts (a.inputs + a.g) g.kind g.a g.b g.c n true (eqb g.a 0) (eqb g.b 0) (eqb g.c 0)
    (known g.kind _ _ false c.is_none.ensures c.apply.ensures c.if-is_none.false) c.operands-count.ensures
    (unused 0 n _ g.a (omega arith)) (unused 1 n _ g.b (omega arith)) (unused 2 n _ g.c (omega arith))

pub returns-then-own-gate : goal.returns-then-own-gate
returns-then-own-gate c = let a = c.args in
    let g = a.gate in
    let n = c.operands-count.result in
    parts (a.inputs + a.g) g.kind g.a g.b g.c n true false _ _
    (known g.kind _ _ false c.is_none.ensures c.apply.ensures c.if-is_none.false) c.operands-count.ensures
    (used 0 n _ _ g.a false (omega arith) (below_own a.inputs a.g _ g.a c.min.ensures (omega arith))
    (le-ltb g.a _ (omega arith))) refl refl

pub returns-then-count-eq1 : goal.returns-then-count-eq1
returns-then-count-eq1 c = let a = c.args in
    let g = a.gate in
    let n = c.operands-count.result in
    c.are_zero-then-count-eq1.ensures
    ∙ parts (a.inputs + a.g) g.kind g.a g.b g.c n true true (eqb g.b 0) (eqb g.c 0)
    (known g.kind _ _ false c.is_none.ensures c.apply.ensures c.if-is_none.false) c.operands-count.ensures
    (used 0 n _ _ g.a true (omega arith) (below_own a.inputs a.g _ g.a c.min.ensures (omega arith))
    (lt-ltb g.a _ (omega arith)))
    (unused 1 n _ g.b (omega arith)) (unused 2 n _ g.c (omega arith))

pub returns-then-own-gate-2 : goal.returns-then-own-gate-2
returns-then-own-gate-2 c = let a = c.args in
    let g = a.gate in
    let n = c.operands-count.result in
    parts (a.inputs + a.g) g.kind g.a g.b g.c n true true false _
    (known g.kind _ _ false c.is_none.ensures c.apply.ensures c.if-is_none.false) c.operands-count.ensures
    (used 0 n _ _ g.a true (omega arith) (below_own a.inputs a.g _ g.a c.min.ensures (omega arith))
    (lt-ltb g.a _ (omega arith)))
    (used 1 n _ _ g.b false (omega arith) (below_own a.inputs a.g _ g.b c.min.ensures (omega arith))
    (le-ltb g.b _ (omega arith))) refl

pub returns-then-count-eq2 : goal.returns-then-count-eq2
returns-then-count-eq2 c = let a = c.args in
    let g = a.gate in
    let n = c.operands-count.result in
    parts (a.inputs + a.g) g.kind g.a g.b g.c n true true true (eqb g.c 0)
    (known g.kind _ _ false c.is_none.ensures c.apply.ensures c.if-is_none.false) c.operands-count.ensures
    (used 0 n _ _ g.a true (omega arith) (below_own a.inputs a.g _ g.a c.min.ensures (omega arith))
    (lt-ltb g.a _ (omega arith)))
    (used 1 n _ _ g.b true (omega arith) (below_own a.inputs a.g _ g.b c.min.ensures (omega arith))
    (lt-ltb g.b _ (omega arith)))
    (unused 2 n _ g.c (omega arith))

pub returns : goal.returns
returns c = let a = c.args in
    let g = a.gate in
    let n = c.operands-count.result in
    let own = c.min.result + a.g in
    parts (a.inputs + a.g) g.kind g.a g.b g.c n true true true (ltb g.c own)
    (known g.kind _ _ false c.is_none.ensures c.apply.ensures c.if-is_none.false) c.operands-count.ensures
    (used 0 n _ _ g.a true (omega arith) (below_own a.inputs a.g _ g.a c.min.ensures (omega arith))
    (lt-ltb g.a _ (omega arith)))
    (used 1 n _ _ g.b true (omega arith) (below_own a.inputs a.g _ g.b c.min.ensures (omega arith))
    (lt-ltb g.b _ (omega arith)))
    (used 2 n own _ g.c _ (omega arith) (below_own a.inputs a.g _ g.c c.min.ensures (omega arith)) refl)

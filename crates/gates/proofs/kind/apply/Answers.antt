-- `gates::kind::apply` meets its contract: each arm's value is its kind's entry in the list of values.
-- Assumes nothing.
use Rattle.std.specs.Prelude.{Some}
use mathlib.Core.Path.{◌≡◌, ◌∙◌, refl, ap}
use mathlib.Core.Bool.{Bool, true, false, cond, not}
use lib.Dec.{eqb}
use mir.Val.{bool_byte}
use Prim.Native.Nat.{ℕ, zero, suc, ◌≤◌, ◌-◌}
use native.Mathlib.Omega.{arith}
use borrow.Author.Tests.{eq-eqb, ne_eqb, le-ltb}
use Rattle.gates.specs.Open.Kind.{applied, value_of, differ, chosen}
use Rattle.basics.proofs.Arithmetic.{above_3}
use Rattle.basics.proofs.Arithmetic.{above_7}
use Rattle.gates.proofs.kind.apply.Goals as goal

-- whether a byte is 0, and whether two differ, as bits
complement : (a : ℕ) → bool_byte (eqb a 0) ≡ 1 - a
complement zero = refl
complement (suc a) =
    let none : 0 ≡ 1 - suc a = omega arith in
    ap bool_byte (ne_eqb (suc a) 0 (λ h. omega arith)) ∙ none

difference : (a b : ℕ) → bool_byte (not (eqb a b)) ≡ differ a b
unfolding differ
difference a b = go (eqb a b)
  where
    go : (t : Bool) → bool_byte (not t) ≡ cond t 0 1
    go true = refl
    go false = refl

pub returns-in-0 : goal.returns-in-0
unfolding applied value_of
returns-in-0 c = rw c.in-0.is

pub returns-in-1 : goal.returns-in-1
unfolding applied value_of
returns-in-1 c = rw c.in-1.is

pub returns-in-2 : goal.returns-in-2
unfolding applied value_of
returns-in-2 c = rw c.in-2.is

pub returns-in-3 : goal.returns-in-3
unfolding applied value_of
returns-in-3 c = rw c.in-3.is (ap Some (c.from.ensures ∙ complement c.args.a))

pub returns-in-4 : goal.returns-in-4
unfolding applied value_of
returns-in-4 c = rw c.in-4.is (ap Some c.min.ensures)

pub returns-in-5 : goal.returns-in-5
unfolding applied value_of
returns-in-5 c = rw c.in-5.is (ap Some c.max.ensures)

pub returns-in-6 : goal.returns-in-6
unfolding applied value_of
returns-in-6 c = rw c.in-6.is (ap Some (c.from-in-6.ensures ∙ difference c.args.a c.args.b))

pub returns-then-a-eq0 : goal.returns-then-a-eq0
unfolding applied value_of chosen
returns-then-a-eq0 c = rw c.in-7.is (simp (eq-eqb _ _ c.if-a-eq0.true))

pub returns-else-a-eq0 : goal.returns-else-a-eq0
unfolding applied value_of chosen
returns-else-a-eq0 c = rw c.in-7.is (simp (ne_eqb _ _ c.if-a-eq0.false))

pub returns-in-8-to-4294967295 : goal.returns-in-8-to-4294967295
unfolding applied
returns-in-8-to-4294967295 c = let r = c.in-8-to-4294967295.in-8-to-4294967295-own.rest in
    let k = c.args.kind in
    let l : 8 ≤ k =
    above_7 k (above_3 k r.0.0.0.0.0.0.0.1 r.0.0.0.0.0.0.1 r.0.0.0.0.0.1 r.0.0.0.0.1)
    r.0.0.0.1 r.0.0.1 r.0.1 r.1 in
    rw (le-ltb k 8 l)

-- `trustee_gates::bits::part_of_kind` meets its contract: each arm is the entry of its kind in the definition's
-- list.
-- Assumes nothing.
use mathlib.Core.Path.{◌≡◌, sym}
use mathlib.Core.List.{[], ◌∷◌}
use Prim.Native.Nat.{ℕ, ◌+◌, ◌%◌, ◌≤◌}
use native.Mathlib.Omega.{arith}
use lib.ListN.{get_or-eq_default}
use Rattle.trustee_shares.specs.Shares.{entered, part_of_kind}
use Rattle.trustee_gates.proofs.Parity.{three_mods}
use Rattle.gates.specs.Kind.{kind_count}
use Rattle.trustee_gates.proofs.bits.part_of_kind.Goals as goal

no_kind : (p k a b c z : ℕ) → kind_count ≤ k → 0 ≡ part_of_kind p k a b c z
unfolding part_of_kind
no_kind p k a b c z h = sym (get_or-eq_default
    (0 ∷ entered p 1 ∷ a ∷ (a + entered p 1) % 2 ∷ z ∷ (a + b + z) % 2 ∷ (a + b) % 2 ∷ (c + z) % 2 ∷ []) 0 {n = k} h)

pub returns-in-0 : goal.returns-in-0
unfolding part_of_kind
returns-in-0 c = rw c.in-0.is

pub returns-in-1 : goal.returns-in-1
unfolding part_of_kind
returns-in-1 c = rw c.in-1.is c.enter_once-one.ensures

pub returns-in-2 : goal.returns-in-2
unfolding part_of_kind
returns-in-2 c = rw c.in-2.is

pub returns-in-3 : goal.returns-in-3
unfolding part_of_kind
returns-in-3 c = rw c.in-3.is (omega (arith, c.enter_once-one.ensures))

pub returns-in-4 : goal.returns-in-4
unfolding part_of_kind
returns-in-4 c = rw c.in-4.is

pub returns-in-5 : goal.returns-in-5
unfolding part_of_kind
returns-in-5 c = let a = c.args in rw c.in-5.is (three_mods a.a a.b a.z)

pub returns-in-6 : goal.returns-in-6
unfolding part_of_kind
returns-in-6 c = rw c.in-6.is (omega arith)

pub returns-in-7 : goal.returns-in-7
unfolding part_of_kind
returns-in-7 c = rw c.in-7.is (omega arith)

pub returns-in_default : goal.returns-in_default
returns-in_default c =
    let a = c.args in
    let above : 8 ≤ a.kind = omega arith in
    no_kind a.p a.kind a.a a.b a.c a.z above

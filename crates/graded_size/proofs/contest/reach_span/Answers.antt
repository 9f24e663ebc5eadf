-- `graded_size::contest::reach_span` meets its contract: one digit, or two halves.
-- Assumes nothing.
use mathlib.Core.Path.{◌≡◌, ap}
use Prim.Native.Nat.{ℕ, ◌-◌, ◌/◌}
use native.Mathlib.Omega.{arith}
use Rattle.gate_words.proofs.ReachLaws.{reach_last_none, reach_last_some}
use Rattle.graded_size.proofs.contest.reach_span.Goals as goal

pub returns-then-digits-eq1 : goal.returns-then-digits-eq1
returns-then-digits-eq1 c =
    let a = c.args in omega (arith, reach_last_none (a.digits - 1) (omega (arith, c.if-digits-eq1.true)))

pub returns : goal.returns
returns c =
    let a = c.args in
    let h = c.requires in
    let z = c.if-digits-eq1.false in
    let e = reach_last_some (a.digits - 1) (omega arith) in
    let f : a.digits - 1 - 1 ≡ a.digits - 2 = omega arith in
    omega (arith, e, ap (λ (k : ℕ). k / 2) f)

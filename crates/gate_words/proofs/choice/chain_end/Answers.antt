-- `gate_words::choice::chain_end` meets its contract: it computes the definition.
-- Assumes nothing.
use mathlib.Core.Path.{◌≡◌, refl}
use Prim.Native.Nat.{ℕ, zero, suc, ◌+◌, ◌-◌}
use native.Mathlib.Omega.{arith}
use Rattle.gate_words.specs.Choice.{chain_end}
use Rattle.gate_words.proofs.choice.chain_end.Goals as goal

no_gate : (n s m : ℕ) → m ≡ 0 → s ≡ chain_end n s m
unfolding chain_end
no_gate n s m e = rw e

last_gate : (n s m : ℕ) → (m ≡ 0 → ⊥) → n + m - 1 ≡ chain_end n s m
unfolding chain_end
last_gate n s zero h = absurd (h refl)
last_gate n s (suc m) h = omega arith

pub returns-then-count-eq0 : goal.returns-then-count-eq0
returns-then-count-eq0 c =
    let a = c.args in no_gate a.n a.s a.count c.if-count-eq0.true

pub returns-else-count-eq0 : goal.returns-else-count-eq0
returns-else-count-eq0 c =
    let a = c.args in last_gate a.n a.s a.count c.if-count-eq0.false

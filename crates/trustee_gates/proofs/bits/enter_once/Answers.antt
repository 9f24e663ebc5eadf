-- `trustee_gates::bits::enter_once` meets its contract: the first trustee enters the bit, any other enters 0.
-- Assumes nothing.
use mathlib.Core.Path.{◌≡◌, refl}
use Prim.Native.Nat.{ℕ, zero, suc, ◌<◌}
use native.Mathlib.Omega.{arith}
use Rattle.trustee_shares.specs.Shares.{entered}
use Rattle.trustee_gates.proofs.bits.enter_once.Goals as goal

other : (p x : ℕ) → 0 < p → 0 ≡ entered p x
unfolding entered
other zero x h = absurd (omega arith)
other (suc p) x h = refl

pub returns-then-p-eq0 : goal.returns-then-p-eq0
unfolding entered
returns-then-p-eq0 c = let a = c.args in let e : a.p ≡ 0 = omega arith in rw e

pub returns-else-p-eq0 : goal.returns-else-p-eq0
returns-else-p-eq0 c = let a = c.args in let n : 0 < a.p = omega arith in other a.p a.x n

-- `gate_words::halves::high_unequal_at` meets its contract: it is the end of the second chain.
-- Assumes nothing.
use mathlib.Core.Path.{◌∙◌}
use Prim.Native.Nat.{◌+◌}
use native.Mathlib.Omega.{arith}
use Rattle.gate_words.proofs.HalvesLaws.{high_unequal_none, high_unequal_some}
use Rattle.gate_words.proofs.halves.high_unequal_at.Goals as goal

pub returns-then-high-eq0 : goal.returns-then-high-eq0
returns-then-high-eq0 c =
    let a = c.args in high_unequal_none a.n a.low a.high c.if-high-eq0.true

pub returns : goal.returns
returns c =
    let a = c.args in
    let h = c.if-high-eq0.false in
    c.chain_end.ensures ∙ high_unequal_some a.n a.low a.high (a.n + a.low + a.high + 1 + a.low) (omega arith) (omega arith)

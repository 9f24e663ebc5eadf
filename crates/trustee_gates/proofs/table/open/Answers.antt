-- `trustee_gates::table::open` meets its contract: after p turns the entries of the first p trustees are added.
-- Assumes nothing.
use mathlib.Core.Path.{◌∙◌, sym, ap}
use Prim.Native.Nat.{ℕ}
use native.Mathlib.Numerals.{add-one}
use Rattle.trustee_shares.specs.Shares.{opened, part}
use Rattle.trustee_shares.specs.Views.{piece}
use Rattle.trustee_gates.proofs.Parity.{opened_more, opened_none}
use Rattle.trustee_gates.proofs.table.open.Goals as goal

pub loop-p-init : goal.loop-p-init
loop-p-init c = opened_none _

pub loop-p-preserved : goal.loop-p-preserved
loop-p-preserved c =
    let a = c.args in
    let f : ℕ → ℕ = λ q. part (piece a.size a.table.now q) a.index in
    opened_more c.loop-p.p f c.loop-p.sum c.entry.result c.plus-sum.result c.loop-p.invariant c.entry.ensures
    c.plus-sum.ensures ∙ ap (λ (n : ℕ). opened n f) (sym (add-one c.loop-p.p))

-- `trustee_gates::gate::enter_free` meets its contract: the first p trustees have entered their parts, each in its
-- own piece.
-- Assumes nothing.
use mathlib.Core.Path.{◌∙◌, refl, ap}
use mathlib.Core.List.{List}
use Prim.Native.Nat.{ℕ}
use Rattle.trustee_shares.specs.Shares.{part, part_of_kind}
use Rattle.trustee_shares.specs.Views.{piece}
use Rattle.trustee_gates.specs.inner.Tables.{each_puts}
use Rattle.trustee_gates.proofs.Puts.{puts_one, own_piece}
use Rattle.trustee_gates.proofs.gate.enter_free.Goals as goal

pub loop-p-init : goal.loop-p-init
unfolding each_puts
loop-p-init c = refl

pub loop-p-preserved : goal.loop-p-preserved
loop-p-preserved c =
    let a = c.args in
    let p = c.loop-p.p in
    let by : ℕ → List ℕ → ℕ = λ q r. part_of_kind q a.gate.kind (part r a.gate.a) (part r a.gate.b) (part r a.gate.c) 0 in
    let f : ℕ → ℕ = λ q. by q (piece a.size a.wires.now q) in
    puts_one f c.loop-p.wires a.wires.now p a.size a.own c.new_part.result c.loop-p.invariant
    (c.new_part.ensures ∙ ap (by p) (own_piece f c.loop-p.wires a.wires.now p a.size a.own c.requires.own_in c.loop-p.invariant))

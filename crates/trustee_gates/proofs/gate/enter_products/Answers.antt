-- `trustee_gates::gate::enter_products` meets its contract: the first p trustees have entered their parts, each in
-- its own piece.
-- Assumes nothing.
use mathlib.Core.Path.{◌∙◌, refl, ap}
use mathlib.Core.List.{List}
use Prim.Native.Nat.{ℕ}
use Rattle.trustee_shares.specs.Shares.{part, part_of_kind, product_part}
use Rattle.trustee_shares.specs.Views.{piece}
use Rattle.trustee_gates.specs.inner.Tables.{each_puts}
use Rattle.trustee_gates.proofs.Puts.{puts_one, own_piece}
use Rattle.trustee_gates.proofs.gate.enter_products.Goals as goal

pub loop-p-init : goal.loop-p-init
unfolding each_puts
loop-p-init c = refl

pub loop-p-preserved : goal.loop-p-preserved
loop-p-preserved c =
    let a = c.args in
    let p = c.loop-p.p in
    let size = a.pieces.wires in
    let by : ℕ → List ℕ → ℕ → ℕ = λ q r z. part_of_kind q a.gate.kind (part r a.gate.a) (part r a.gate.b) (part r a.gate.c) z in
    let z : ℕ → ℕ = λ q. product_part q (piece a.pieces.triples a.triples.now q) a.i a.opened.first a.opened.second in
    let f : ℕ → ℕ = λ q. by q (piece size a.wires.now q) (z q) in
    let same = own_piece f c.loop-p.wires a.wires.now p size a.own c.requires.free.own_in c.loop-p.invariant in
    puts_one f c.loop-p.wires a.wires.now p size a.own c.new_part.result c.loop-p.invariant
    (c.new_part.ensures ∙ ap (λ (r : List ℕ). by p r c.product_part-z.result) same
    ∙ ap (by p (piece size a.wires.now p)) c.product_part-z.ensures)

-- `trustee_gates::gate::run_gate` meets its contract: for a conditional gate, factors are published and opened, and
-- parts are stored; for a free gate, parts are only stored.
-- Assumes nothing.
use mathlib.Core.Path.{◌≡◌, ◌∙◌, sym, ap}
use mathlib.Core.Bool.{Bool, true, false, cond}
use mathlib.Core.List.{List, [], ◌∷◌}
use Prim.Native.Nat.{ℕ, ◌+◌, ◌*◌}
use native.Mathlib.Omega.{arith}
use Rattle.gates.specs.Kind.{conditional_of}
use Rattle.trustee_shares.specs.Shares.{masked_first, masked_second}
use Rattle.trustee_shares.specs.Views.{piece}
use Rattle.trustee_shares.proofs.Accuracy.{mark_one}
use Rattle.trustee_gates.specs.inner.Tables.{each_puts}
use Rattle.trustee_gates.proofs.Entering.{products_entered, free_entered}
use Rattle.trustee_shares.proofs.Publishing.{mark_none}
use Rattle.trustee_gates.proofs.gate.run_gate.Goals as goal
use Rattle.trustee_gates.proofs.gate.run_gate.Goals.{Else-conditional, Then-conditional}

taken : (c : Then-conditional) → conditional_of c.args.gate.kind ≡ true
taken c = sym c.conditional.ensures ∙ c.if-conditional.true

left : (c : Else-conditional) → conditional_of c.args.gate.kind ≡ false
left c = sym c.conditional.ensures ∙ c.if-conditional.false

pub returns-then-conditional : goal.returns-then-conditional
returns-then-conditional c = let a = c.args in
    let is = taken (goal.at.returns-then-conditional c).Then-conditional in
    let X : Bool → List ℕ = λ b. cond b
    (each_puts a.t a.pieces.published (2 * a.i)
    (λ p. masked_first (piece a.pieces.wires a.wires.now p) (piece a.pieces.triples a.triples.now p)
    a.i a.gate ∷ masked_second (piece a.pieces.wires a.wires.now p)
    (piece a.pieces.triples a.triples.now p) a.i a.gate ∷ []) a.published.now)
    a.published.now in
    record {
      next = sym (ap (λ (n : ℕ). a.i + n) (mark_one a.gate is));
      parts = products_entered a.t a.pieces.wires a.own a.i a.gate
          (piece a.pieces.triples a.triples.now) a.wires.now _ _ _ c.publish-opened.ensures.first
          c.publish-opened.ensures.second c.enter_products.ensures;
      shown = c.publish-opened.ensures.shown ∙ sym (ap X is);
    }

pub returns : goal.returns
returns c = let a = c.args in
    let is = left (goal.at.returns c).Else-conditional in
    let X : Bool → List ℕ = λ b. cond b
    (each_puts a.t a.pieces.published (2 * a.i)
    (λ p. masked_first (piece a.pieces.wires a.wires.now p) (piece a.pieces.triples a.triples.now p)
    a.i a.gate ∷ masked_second (piece a.pieces.wires a.wires.now p)
    (piece a.pieces.triples a.triples.now p) a.i a.gate ∷ []) a.published.now)
    a.published.now in
    record {
      next = omega (arith, mark_none a.gate is);
      parts = free_entered a.t a.pieces.wires a.own a.i a.gate
          (piece a.pieces.triples a.triples.now) a.wires.now _ c.requires.gate.known is
          c.enter_free.ensures;
      shown = sym (ap X is);
    }

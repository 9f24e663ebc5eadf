-- `trustee_gates::gate::publish` meets its contract: the first p trustees have published their bits, and these are
-- added up.
-- Assumes nothing.
use mathlib.Core.Path.{◌≡◌, ◌∙◌, refl, sym, ap}
use mathlib.Core.List.{[], ◌∷◌}
use Prim.Native.Nat.{ℕ, ◌*◌}
use native.Mathlib.Numerals.{add-one}
use native.Mathlib.Omega.{arith}
use Rattle.trustee_shares.specs.Shares.{opened, masked_first, masked_second, opened_first, opened_second}
use Rattle.trustee_shares.specs.Views.{piece}
use Rattle.trustee_gates.specs.inner.Tables.{each_puts}
use Rattle.trustee_gates.proofs.Puts.{puts_two}
use Rattle.trustee_gates.proofs.Parity.{opened_more, opened_none}
use Rattle.trustee_gates.proofs.gate.publish.Goals as goal

pub loop-p-init : goal.loop-p-init
unfolding each_puts
loop-p-init c = record { shown = refl; first = opened_none _; second = opened_none _ }

pub loop-p-preserved : goal.loop-p-preserved
loop-p-preserved c =
    let a = c.args in
    let p = c.loop-p.p in
    let before = c.loop-p.invariant in
    let f : ℕ → ℕ = λ q. masked_first (piece a.pieces.wires a.wires.now q) (piece a.pieces.triples a.triples.now q) a.i
    a.gate in
    let g : ℕ → ℕ = λ q. masked_second (piece a.pieces.wires a.wires.now q) (piece a.pieces.triples a.triples.now q) a.i
    a.gate in
    record {
      shown = puts_two f g c.loop-p.published a.published.now p a.pieces.published (2 * a.i) c.masked_first-x.result
          c.masked_second-y.result before.shown c.masked_first-x.ensures c.masked_second-y.ensures;
      first = opened_more p f c.loop-p.first c.masked_first-x.result c.plus-first.result before.first
          c.masked_first-x.ensures c.plus-first.ensures ∙ ap (λ (n : ℕ). opened n f) (sym (add-one p));
      second = opened_more p g c.loop-p.second c.masked_second-y.result c.plus-second.result before.second
          c.masked_second-y.ensures c.plus-second.ensures ∙ ap (λ (n : ℕ). opened n g) (sym (add-one p));
    }

pub returns : goal.returns
unfolding opened_first opened_second
returns c =
    let a = c.args in
    let f : ℕ → ℕ = λ q. masked_first (piece a.pieces.wires a.wires.now q) (piece a.pieces.triples a.triples.now q) a.i
    a.gate in
    let g : ℕ → ℕ = λ q. masked_second (piece a.pieces.wires a.wires.now q) (piece a.pieces.triples a.triples.now q) a.i
    a.gate in
    let e : c.loop-p.p ≡ a.t = omega arith in
    record {
      first = c.loop-p.invariant.first ∙ ap (λ (n : ℕ). opened n f) e;
      second = c.loop-p.invariant.second ∙ ap (λ (n : ℕ). opened n g) e;
      shown = c.loop-p.invariant.shown
          ∙ ap (λ (n : ℕ). each_puts n a.pieces.published (2 * a.i) (λ q. f q ∷ g q ∷ []) a.published.now) e;
    }

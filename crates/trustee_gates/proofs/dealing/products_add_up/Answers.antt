-- `trustee_gates::dealing::products_add_up` meets its contract: the parts of the products before i add up.
-- Assumes nothing.
use mathlib.Core.Path.{◌≡◌, ◌∙◌, sym, ap}
use Prim.Native.Nat.{ℕ, ◌*◌}
use native.Mathlib.Numerals.{add-one}
use native.Mathlib.Omega.{arith}
use Rattle.trustee_shares.specs.Views.{piece}
use Rattle.basics.specs.Below.{all_below}
use Rattle.trustee_gates.specs.Dealing.{product_adds_up, products_add_up}
use Rattle.trustee_gates.proofs.Tests.{all_none, all_more, not_all}
use Rattle.trustee_gates.proofs.dealing.products_add_up.Goals as goal

pub loop-i-init : goal.loop-i-init
loop-i-init c = all_none _

pub returns-then-not-product_adds_up : goal.returns-then-not-product_adds_up
unfolding products_add_up
returns-then-not-product_adds_up c =
    let a = c.args in
    not_all (product_adds_up a.t (piece (3 * a.conditional) a.triples.now)) a.conditional c.loop-i.i (omega arith)
    (sym c.product_adds_up.ensures ∙ c.if-not-product_adds_up.true)

pub loop-i-preserved : goal.loop-i-preserved
loop-i-preserved c =
    let a = c.args in
    rw (add-one c.loop-i.i) (all_more (product_adds_up a.t (piece (3 * a.conditional) a.triples.now)) c.loop-i.i
    c.loop-i.invariant (sym c.product_adds_up.ensures ∙ c.if-not-product_adds_up.false))

pub returns : goal.returns
unfolding products_add_up
returns c =
    let e : c.loop-i.i ≡ c.args.conditional = omega arith in
    c.loop-i.invariant
    ∙ ap (λ (n : ℕ). all_below n (product_adds_up c.args.t (piece (3 * c.args.conditional) c.args.triples.now))) e

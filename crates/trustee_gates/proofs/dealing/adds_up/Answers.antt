-- `trustee_gates::dealing::adds_up` meets its contract: the parts of the bytes before x add up.
-- Assumes nothing.
use mathlib.Core.Path.{◌≡◌, ◌∙◌, sym, ap}
use mathlib.Core.Bool.{Bool}
use Prim.Native.Nat.{ℕ}
use native.Mathlib.Numerals.{add-one}
use native.Mathlib.Omega.{arith}
use lib.Dec.{eqb}
use lib.ListN.{length, get_or}
use borrow.Author.Tests.{eq-eqb, ne_eqb}
use Rattle.trustee_shares.specs.Shares.{opened, part}
use Rattle.trustee_shares.specs.Views.{piece}
use Rattle.basics.specs.Below.{all_below}
use Rattle.trustee_gates.specs.Dealing.{adds_up}
use Rattle.trustee_gates.proofs.Tests.{all_none, all_more, not_all}
use Rattle.trustee_gates.proofs.dealing.adds_up.Goals as goal

pub loop-x-init : goal.loop-x-init
loop-x-init c = all_none _

pub returns-then-open-ballot : goal.returns-then-open-ballot
unfolding adds_up
returns-then-open-ballot c =
    let a = c.args in
    let f : ℕ → Bool = λ y. eqb (opened a.t (λ p. part (piece (length a.ballots.now) a.parts.now p) y)) (get_or a.ballots.now y 0) in
    not_all f (length a.ballots.now) c.loop-x.x (omega arith)
    (ap (λ (b : ℕ). eqb b (get_or a.ballots.now c.loop-x.x 0)) (sym c.open.ensures) ∙ ne_eqb _ _ c.if-open-ballot.true)

pub loop-x-preserved : goal.loop-x-preserved
loop-x-preserved c =
    let a = c.args in
    let f : ℕ → Bool = λ y. eqb (opened a.t (λ p. part (piece (length a.ballots.now) a.parts.now p) y)) (get_or a.ballots.now y 0) in
    all_more f c.loop-x.x c.loop-x.invariant
    (ap (λ (b : ℕ). eqb b (get_or a.ballots.now c.loop-x.x 0)) (sym c.open.ensures) ∙ eq-eqb _ _ c.if-open-ballot.false)
    ∙ ap (λ (n : ℕ). all_below n f) (sym (add-one c.loop-x.x))

pub returns : goal.returns
unfolding adds_up
returns c =
    let a = c.args in
    let e : c.loop-x.x ≡ length a.ballots.now = omega arith in
    c.loop-x.invariant ∙ ap (λ (n : ℕ). all_below n
    (λ y. eqb (opened a.t (λ p. part (piece (length a.ballots.now) a.parts.now p) y)) (get_or a.ballots.now y 0))) e

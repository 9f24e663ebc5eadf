-- `trustee_rounds::part::publish_gate` meets its contract: only for a conditional gate of the next level anything
-- is published.
-- Assumes nothing.
use mathlib.Core.Path.{◌≡◌, ◌∙◌, sym, ap}
use mathlib.Core.Bool.{Bool, true, cond, ◌&&◌}
use mathlib.Core.List.{List, [], ◌∷◌}
use Prim.Native.Nat.{ℕ, suc, ◌*◌}
use native.Mathlib.Numerals.{add-one}
use lib.Dec.{eqb}
use lib.ListN.{length, set}
use lib.Seq.{sets}
use borrow.Author.Tests.{eq-eqb}
use Rattle.gates.specs.Kind.{conditional_of}
use Rattle.trustee_shares.specs.Shares.{masked_first, masked_second}
use Rattle.trustee_shares.specs.Views.{piece}
use Rattle.trustee_rounds.proofs.Passing.{own_piece}
use Rattle.trustee_rounds.proofs.part.publish_gate.Goals as goal
use Rattle.trustee_rounds.proofs.part.publish_gate.Goals.{Else-not-conditional}

-- after the first test, the gate is conditional
conditional_here : (c : Else-not-conditional) → conditional_of c.args.numbers.kind ≡ true
conditional_here c = sym c.conditional.ensures ∙ c.if-not-conditional.false

pub returns : goal.returns
returns c = let a = c.args in
    let first : c.masked_first-first.result ≡ masked_first a.wires.now a.triples.now a.i a.numbers =
    c.masked_first-first.ensures
    ∙ ap (λ (l : List ℕ). masked_first l (piece (length a.triples.now) a.triples.now 0) a.i
    a.numbers) (own_piece a.wires.now)
    ∙ ap (λ (l : List ℕ). masked_first a.wires.now l a.i a.numbers) (own_piece a.triples.now) in
    let second : c.masked_second-second.result ≡ masked_second a.wires.now a.triples.now a.i a.numbers =
    c.masked_second-second.ensures ∙ ap (λ (l : List ℕ). masked_second l
    (piece (length a.triples.now) a.triples.now 0) a.i a.numbers) (own_piece a.wires.now)
    ∙ ap (λ (l : List ℕ). masked_second a.wires.now l a.i a.numbers)
    (own_piece a.triples.now) in
    ap (λ (n : ℕ). set (set a.published.now (2 * a.i) c.masked_first-first.result) n
    c.masked_second-second.result) (add-one (2 * a.i))
    ∙ ap (λ (v : ℕ). set (set a.published.now (2 * a.i) v) (suc (2 * a.i)) c.masked_second-second.result) first
    ∙ ap (λ (v : ℕ). set (set a.published.now (2 * a.i)
    (masked_first a.wires.now a.triples.now a.i a.numbers)) (suc (2 * a.i)) v) second
    ∙ sym (ap (λ (b : Bool). cond (b && eqb a.level a.next)
    (sets a.published.now (2 * a.i)
    (masked_first a.wires.now a.triples.now a.i a.numbers ∷ masked_second a.wires.now
    a.triples.now a.i a.numbers ∷ [])) a.published.now) (conditional_here (goal.at.returns c).Else-not-conditional)
    ∙ ap (λ (b : Bool). cond (true && b)
    (sets a.published.now (2 * a.i)
    (masked_first a.wires.now a.triples.now a.i a.numbers ∷ masked_second a.wires.now
    a.triples.now a.i a.numbers ∷ [])) a.published.now)
    (eq-eqb a.level a.next c.if-level-next.false))

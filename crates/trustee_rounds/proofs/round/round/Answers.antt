-- `trustee_rounds::round::round` meets its contract: it enters parts, publishes factors and, after the last level,
-- the closing bits.
-- Assumes nothing.
use mathlib.Core.Path.{◌∙◌, ap}
use mathlib.Core.List.{List, ◌++◌}
use Prim.Native.Nat.{ℕ, ◌*◌}
use native.Mathlib.Omega.{arith}
use lib.ListN.{take}
use Rattle.gates.specs.Gate.{gates_of}
use Rattle.gates.specs.Wires.{outputs_of}
use Rattle.trustee_rounds.specs.Rounds.{Turn, enters, publishes}
use Rattle.trustee_rounds.proofs.Closing.{length_enters, length_publishes, not_closing, closing}
use Rattle.trustee_rounds.proofs.round.round.Goals as goal

pub returns-then-at-rounds : goal.returns-then-at-rounds
returns-then-at-rounds c = let a = c.args in
    let u : Turn =
    (record {
      trustee = a.seat.trustee;
      round = a.seat.round;
      inputs = a.seat.inputs;
      levels =
          a.levels.now;
      triples = a.triples.now;
      heard = a.heard.now;
    }) in
    let gs = gates_of a.table.now in
    let E = enters u gs 0 0 a.wires.now in
    let entered = c.enter.ensures in
    record {
      parts = entered;
      shown = c.publish.ensures a.seat.trustee a.heard.now
          ∙ ap (λ (w : List ℕ). publishes u w gs 0 0 a.published.now) entered
          ∙ not_closing a.seat.round a.rounds a.conditional a.k E (publishes u E gs 0 0 a.published.now) c.if-at-rounds.true;
    }

pub returns : goal.returns
returns c = let a = c.args in
    let u : Turn =
    (record {
      trustee = a.seat.trustee;
      round = a.seat.round;
      inputs = a.seat.inputs;
      levels =
          a.levels.now;
      triples = a.triples.now;
      heard = a.heard.now;
    }) in
    let gs = gates_of a.table.now in
    let E = enters u gs 0 0 a.wires.now in
    let entered = c.enter.ensures in
    let P = publishes u E gs 0 0 a.published.now in
    let published = c.publish.ensures a.seat.trustee a.heard.now
    ∙ ap (λ (w : List ℕ). publishes u w gs 0 0 a.published.now) entered in
    record {
      parts = entered;
      shown = closing a.seat.round a.rounds a.conditional a.k E P
          c.if-at-rounds.false
          (omega (arith, length_enters u gs 0 0 a.wires.now, c.requires.pass.wires_length, c.requires.enough))
          (length_publishes u E gs 0 0 a.published.now ∙ c.requires.published_length) _
          (c.close.ensures ∙ ap (λ (l : List ℕ). take (2 * a.conditional) l
          ++ outputs_of a.k c.enter.new.wires) published
          ∙ ap (λ (w : List ℕ). take (2 * a.conditional) P ++ outputs_of a.k w) entered);
    }

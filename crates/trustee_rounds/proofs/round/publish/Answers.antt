-- `trustee_rounds::round::publish` meets its contract: the pass over the rest gives what the pass over all gates
-- gives.
-- Assumes nothing.
use mathlib.Core.Path.{refl}
use mathlib.Core.List.{[]}
use Prim.Native.Nat.{◌<◌}
use native.Mathlib.Numerals.{add-one}
use native.Mathlib.Omega.{arith}
use lib.ListN.{length}
use Rattle.gates.specs.Gate.{gates_of}
use Rattle.gates.proofs.Table.{length_gates}
use Rattle.gates.proofs.Counting.{count_most}
use Rattle.trustee_rounds.proofs.Passing.{publish_start, publish_turn, publish_end, publish_ready, mark_small}
use Rattle.trustee_rounds.proofs.round.publish.Goals as goal

pub loop-g-init : goal.loop-g-init
loop-g-init c = let a = c.args in
    λ q hs. publish_start (record {
      trustee = q;
      round = a.round;
      inputs = a.inputs;
      levels = a.levels.now;
      triples = a.triples.now;
      heard = hs;
    }) a.table.now a.wires.now a.published.now c.requires.pass.good

pub at-gate-requires : goal.at-gate-requires
at-gate-requires c = let l = c.loop-g in
    let a = c.args in
    let r = c.requires.pass in
    omega (arith, r.levels_length, length_gates a.table.now, c.loop-g-test.true)

pub publish_gate-requires : goal.publish_gate-requires
publish_gate-requires c = let l = c.loop-g in
    let a = c.args in
    let r = c.requires.pass in
    let n = c.at-gate in
    let h = c.loop-g-test.true in
    let inside : l.g < length (gates_of a.table.now) = omega (arith, r.levels_length) in
    let inv = l.invariant 0 [] in
    record {
      marked = refl;
      gate = publish_ready a.inputs a.table.now l.g l.i inv.ahead r.some_input inside n.result
          n.ensures a.triples.now a.wires.now l.published r.wires_length r.triples_length
          (omega (arith, inv.long, c.requires.published_length));
    }

pub overflow_add-i : goal.overflow_add-i
overflow_add-i c = let l = c.loop-g in
    let a = c.args in
    let r = c.requires.pass in
    let n = c.at-gate in
    let h = c.loop-g-test.true in
    let inside : l.g < length (gates_of a.table.now) = omega (arith, r.levels_length) in
    omega (
      arith,
      r.few,
      count_most (gates_of a.table.now),
      mark_small a.inputs a.table.now l.g l.i (l.invariant 0 []).ahead r.some_input inside n.result
          n.ensures c.mark-i.result c.mark-i.ensures,
    )

pub loop-g-preserved : goal.loop-g-preserved
loop-g-preserved c = let l = c.loop-g in
    let a = c.args in
    let r = c.requires.pass in
    let n = c.at-gate in
    let h = c.loop-g-test.true in
    let inside : l.g < length (gates_of a.table.now) = omega (arith, r.levels_length) in
    λ q hs.
    publish_turn (record {
      trustee = q;
      round = a.round;
      inputs = a.inputs;
      levels = a.levels.now;
      triples =
          a.triples.now;
      heard = hs;
    }) a.table.now a.wires.now a.published.now l.published l.g
    l.i (l.invariant q hs) r.some_input inside n.result n.ensures c.rounds-depth.result
    _ _ c.mark-i.result _ _ c.rounds-depth.ensures (add-one a.round)
    c.publish_gate.ensures c.mark-i.ensures refl (add-one l.g)

pub returns : goal.returns
returns c = let l = c.loop-g in
    let a = c.args in
    let r = c.requires.pass in
    λ q hs. publish_end (record {
      trustee = q;
      round = a.round;
      inputs = a.inputs;
      levels = a.levels.now;
      triples = a.triples.now;
      heard = hs;
    }) a.table.now a.wires.now a.published.now l.published
    l.g l.i (l.invariant q hs) (omega (arith, r.levels_length, c.loop-g-test.false))

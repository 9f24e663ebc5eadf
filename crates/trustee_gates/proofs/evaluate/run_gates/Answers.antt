-- `trustee_gates::evaluate::run_gates` meets its contract: running the rest of the gates gives what running all
-- gives.
-- Assumes nothing.
use mathlib.Core.Path.{refl}
use native.Mathlib.Numerals.{add-one}
use native.Mathlib.Omega.{arith}
use Rattle.gates.proofs.Table.{length_gates}
use Rattle.trustee_shares.specs.Views.{piece}
use Rattle.trustee_gates.proofs.Running.{left_start, left_end, gate_ready, turn_by}
use Rattle.trustee_gates.proofs.evaluate.run_gates.Goals as goal

pub loop-g-init : goal.loop-g-init
loop-g-init c =
    let a = c.args in
    left_start a.t a.pieces.wires a.pieces.published a.inputs
    (piece a.pieces.triples a.triples.now) a.table.now a.wires.now a.published.now c.requires.good
    c.requires.wires_length c.requires.published_length

pub run_gate-i-requires : goal.run_gate-i-requires
run_gate-i-requires c =
    let l = c.loop-g in
    let a = c.args in
    let r = c.requires in
    record {
      marked = refl;
      gate = gate_ready a.t a.inputs a.pieces a.table.now a.triples.now _ _ r.wires_size r.few
          r.triples_size r.published_size r.some_input r.triples_length l.wires l.published l.i
          l.g l.invariant
          (omega (arith, length_gates a.table.now, c.loop-g-test.true)) c.at-gate.result
          c.at-gate.ensures;
    }

pub loop-g-preserved : goal.loop-g-preserved
loop-g-preserved c =
    let l = c.loop-g in
    let a = c.args in
    let r = c.requires in
    turn_by a.t a.inputs a.pieces a.table.now a.triples.now _ _ r.wires_size r.few
    r.triples_size r.published_size r.some_input r.triples_length l.wires l.published l.i l.g
    l.invariant
    (omega (arith, length_gates a.table.now, c.loop-g-test.true)) c.at-gate.result
    c.at-gate.ensures _ _ _ _ c.run_gate-i.ensures.next c.run_gate-i.ensures.parts
    c.run_gate-i.ensures.shown (add-one l.g)

pub returns : goal.returns
returns c =
    let a = c.args in
    let l = c.loop-g in
    let e = left_end a.t a.pieces.wires a.pieces.published a.inputs
    (piece a.pieces.triples a.triples.now) a.table.now _ _ c.requires.wires_size l.wires
    l.published l.i l.g l.invariant (omega (arith, length_gates a.table.now)) in
    record { parts = e.0; shown = e.1 }

-- `gates::step::finish` meets its contract: stepping over all gates, then closing, leaves the wires and the board of
-- the list.
-- Assumes nothing.
use mathlib.Core.Path.{sym}
use native.Mathlib.Omega.{arith}
use Rattle.gates.proofs.Table.{length_gates}
use Rattle.gates.proofs.Finishing.{ready, can_close, final_wires, final_board}
use Rattle.gates.proofs.step.finish.Goals as goal

pub step-shown-requires : goal.step-shown-requires
step-shown-requires c = let a = c.args in
    let p = c.requires in
    let e = sym (length_gates a.table.now) in
    ready a.inputs a.table.now _ a.outputs a.tape.now a.wires.now a.board.now e
    (omega (arith, e, p.wires_length)) (omega (arith, e, p.enough)) p.good p.tape_length p.board_length

pub close-requires : goal.close-requires
close-requires c = let a = c.args in
    let p = c.requires in
    let e = sym (length_gates a.table.now) in
    let r = c.step-shown in
    can_close a.inputs a.table.now _ a.outputs a.tape.now a.wires.now a.board.now e
    (omega (arith, e, p.wires_length)) (omega (arith, e, p.enough)) p.good p.tape_length p.board_length
    r.result _ _ r.ensures.next r.ensures.wires r.ensures.board

pub returns : goal.returns
returns c = let a = c.args in
    let p = c.requires in
    let e = sym (length_gates a.table.now) in
    let r = c.step-shown in
    record {
      wires = final_wires a.inputs a.table.now _ a.outputs a.tape.now a.wires.now a.board.now
          e (omega (arith, e, p.wires_length)) (omega (arith, e, p.enough)) p.good p.tape_length
          p.board_length r.result _ _ r.ensures.next r.ensures.wires r.ensures.board;
      board = final_board a.inputs a.table.now _ a.outputs a.tape.now a.wires.now a.board.now
          e (omega (arith, e, p.wires_length)) (omega (arith, e, p.enough)) p.good p.tape_length
          p.board_length r.result _ _ r.ensures.next r.ensures.wires r.ensures.board _
          c.close.ensures;
    }

-- `gate_words::writer::Writer::rows` meets its contract: after each gate, writing the gates left completes the
-- rows.
-- Assumes nothing.
use Prim.Native.Nat.{◌-◌}
use native.Mathlib.Omega.{arith}
use Rattle.gate_words.proofs.Emitting.{two_wrote}
use Rattle.gate_words.proofs.Going.{goes_turn, goes_room_for, goes_done}
use Rattle.gate_words.proofs.Places.{below_first, below_next}
use Rattle.gate_words.proofs.RowSteps.{rows_step, rows_none, length_rows_of}
use Rattle.gate_words.proofs.writer.Writer.rows.Goals as goal

pub emit-w-requires : goal.emit-w-requires
emit-w-requires c =
    goes_room_for c.loop.invariant.0 (omega (arith, length_rows_of)) (omega (arith, length_rows_of)) c.requires.rows.room

pub overflow_add-first : goal.overflow_add-first
overflow_add-first c =
    let l = c.loop in
    omega (
      arith,
      below_first c.args.self.wire l.first c.args.dx (c.args.count - l.counter) (omega arith) l.invariant.1,
    )

pub overflow_add-second : goal.overflow_add-second
overflow_add-second c =
    let l = c.loop in
    omega (
      arith,
      below_first c.args.self.wire l.second c.args.dy (c.args.count - l.counter) (omega arith) l.invariant.2,
    )

pub loop-preserved : goal.loop-preserved
loop-preserved c =
    let a = c.args in
    let l = c.loop in
    let t = c.loop-test.true in (
      goes_turn (rows_step a.kind l.first a.dx l.second a.dy l.counter a.count t) l.invariant.0
          (two_wrote _ _ _ _ _ _ _ a.kind c.requires.two c.emit-w.ensures),
      below_next a.self.wire l.first a.dx l.counter a.count t l.invariant.1,
      below_next a.self.wire l.second a.dy l.counter a.count t l.invariant.2,
    )

pub returns : goal.returns
returns c =
    let a = c.args in
    let l = c.loop in
    goes_done l.invariant.0 (rows_none a.kind l.first a.dx l.second a.dy l.counter a.count c.loop-test.false)

-- `gate_words::writer::Writer::chain` meets its contract: after each gate, writing the rest of the chain completes
-- it.
-- Assumes nothing.
use mathlib.Core.Path.{sym, ap}
use Prim.Native.Nat.{ℕ, ◌+◌, ◌-◌}
use native.Mathlib.Omega.{arith}
use Rattle.gate_words.specs.Choice.{chain_of}
use Rattle.gate_words.proofs.Emitting.{two_wrote}
use Rattle.gate_words.proofs.Going.{goes_turn_as, goes_room_for, goes_done}
use Rattle.gate_words.proofs.Places.{below_first, below_next}
use Rattle.gate_words.proofs.ChoiceSteps.{chain_step, chain_none, length_chain}
use Rattle.gate_words.proofs.writer.Writer.chain.Goals as goal

pub emit-w-requires : goal.emit-w-requires
emit-w-requires c =
    goes_room_for c.loop.invariant.0 (omega (arith, length_chain)) (omega (arith, length_chain)) c.requires.room

pub overflow_add-at : goal.overflow_add-at
overflow_add-at c =
    let l = c.loop in
    omega (
      arith,
      below_first c.args.self.wire l.at c.args.stride (c.args.count - l.counter) (omega arith) l.invariant.1,
    )

pub loop-preserved : goal.loop-preserved
loop-preserved c =
    let a = c.args in
    let l = c.loop in
    let e = c.emit-w in
    let t = c.loop-test.true in (
      goes_turn_as (chain_step a.kind l.w.wire l.last l.at a.stride l.counter a.count t) l.invariant.0
          (two_wrote _ _ _ _ _ _ _ a.kind c.requires.two e.ensures)
          (ap (λ (n : ℕ). chain_of a.kind n l.w.wire (l.at + a.stride) a.stride (a.count - (l.counter + 1)))
          (sym e.ensures.wires)),
      below_next a.self.wire l.at a.stride l.counter a.count t l.invariant.1,
    )

pub returns : goal.returns
returns c =
    let a = c.args in
    let l = c.loop in
    goes_done l.invariant.0 (chain_none a.kind l.w.wire l.last l.at a.stride l.counter a.count c.loop-test.false)

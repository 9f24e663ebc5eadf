-- `graded_writer::list::candidates` meets its contract: after each candidate, writing those left completes the block.
-- Assumes nothing.
use mathlib.Core.Path.{◌≡◌, ◌∙◌, sym, ap}
use Prim.Native.Nat.{ℕ, suc, ◌+◌, ◌-◌, ◌*◌, ◌<◌}
use native.Mathlib.Nat.{suc-mul}
use native.Mathlib.Omega.{arith}
use lib.ListN.{length}
use Rattle.gate_words.proofs.Going.{goes_start, goes_as, goes_on, goes_room, goes_end}
use Rattle.graded_circuit.specs.Key.{candidate_span}
use Rattle.graded_circuit.specs.OwnList.{candidates_from}
use Rattle.graded_circuit.proofs.CandidateBlocks.{candidate_block}
use Rattle.graded_circuit.proofs.LevelsLaws.{candidates_block}
use Rattle.graded_writer.proofs.ListWriters.{candidates_step, candidates_none}
use Rattle.graded_writer.proofs.list.candidates.Goals as goal
use Rattle.graded_writer.proofs.list.candidates.Goals.{In-loop-c}

pub loop-c-init : goal.loop-c-init
loop-c-init c = let a = c.args in
    let e : a.p.candidates ≡ a.p.candidates - 0 = omega arith in
    let whole = candidates_from a.p a.w.wire 0 a.p.candidates in (
      c.requires.inputs_below,
      goes_as a.w a.table.now whole a.w a.table.now _ _ (ap (candidates_from a.p a.w.wire 0) e)
          (goes_start a.w a.table.now whole (a.p.candidates * candidate_span a.p) c.requires.room),
    )

one_more : (c : In-loop-c)
    → (c.loop-c.c < c.args.p.candidates)
    × (length (candidates_from c.args.p c.loop-c.next.wire
    c.loop-c.c (c.args.p.candidates - c.loop-c.c))
    ≡ (c.args.p.candidates - c.loop-c.c)
    * candidate_span c.args.p)
    × ((c.args.p.candidates - c.loop-c.c)
    * candidate_span c.args.p
    ≡ (c.args.p.candidates - (c.loop-c.c + 1))
    * candidate_span c.args.p + candidate_span c.args.p)
one_more c =
    let a = c.args in
    let l = c.loop-c in
    let t : l.c < a.p.candidates = c.loop-c-test.true in
    let e : a.p.candidates - l.c ≡ suc (a.p.candidates - (l.c + 1)) = omega arith in (
      t,
      (candidates_block a.p c.requires.plan l.next.wire l.c
          (a.p.candidates - l.c) l.invariant.0 (omega arith)).long,
      ap (λ (k : ℕ). k * candidate_span a.p) e ∙ suc-mul (a.p.candidates - (l.c + 1)) (candidate_span a.p),
    )

pub candidate-next-requires : goal.candidate-next-requires
candidate-next-requires c = let a = c.args in
    let l = c.loop-c in
    let q = one_more (goal.at.candidate-next-requires c).In-loop-c in
    record {
      planned = c.requires.plan;
      candidate = q.0;
      inputs = l.invariant.0;
      room = goes_room a.w a.table.now (candidates_from a.p a.w.wire 0 a.p.candidates) l.next
          l.table (candidates_from a.p l.next.wire l.c (a.p.candidates - l.c)) _
          (a.p.candidates * candidate_span a.p) l.invariant.1
          (omega (arith, q.1, q.2)) (omega (
            arith,
            (candidates_block a.p c.requires.plan a.w.wire 0 a.p.candidates c.requires.inputs_below
                (omega arith)).long,
          )) c.requires.room;
    }

pub loop-c-preserved : goal.loop-c-preserved
loop-c-preserved c = let a = c.args in
    let l = c.loop-c in
    let t = (one_more (goal.at.loop-c-preserved c).In-loop-c).0 in
    let h = c.candidate-next in
    let whole = candidates_from a.p a.w.wire 0 a.p.candidates in
    let e : h.result.wire ≡ l.next.wire + candidate_span a.p =
    omega (
      arith,
      h.ensures.wires,
      (candidate_block a.p c.requires.plan l.next.wire l.c
          l.invariant.0 t).long,
    ) in (
      omega (arith, l.invariant.0, e),
      goes_as a.w a.table.now whole h.result h.new.table _ _
          (ap (λ (k : ℕ). candidates_from a.p k (l.c + 1) (a.p.candidates - (l.c + 1))) (sym e))
          (goes_on a.w a.table.now whole l.next l.table _ _ h.new.table h.result
          (goes_as a.w a.table.now whole l.next l.table _ _
          (candidates_step a.p l.next.wire l.c a.p.candidates t) l.invariant.1)
          h.ensures),
    )

pub returns : goal.returns
returns c = let a = c.args in
    let l = c.loop-c in
    goes_end a.w a.table.now (candidates_from a.p a.w.wire 0 a.p.candidates) l.next l.table _
    (candidates_none a.p l.next.wire l.c a.p.candidates
    (omega arith)) l.invariant.1

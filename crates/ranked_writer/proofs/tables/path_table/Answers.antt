-- `ranked_writer::tables::path_table` meets its contract: a new word for each pair of candidates whose word the stage
-- changes.
-- Assumes nothing.
use mathlib.Core.Path.{ap}
use Prim.Native.Nat.{ℕ, suc, ◌-◌, ◌*◌, ◌/◌, ◌%◌, ◌≤◌}
use native.Mathlib.Omega.{arith}
use lib.ListN.{length}
use Rattle.gate_words.proofs.Writing.{room_less, wrote_as}
use Rattle.ranked_circuit.specs.Stages.{stays}
use Rattle.ranked_blocks.proofs.Entering.{square_small}
use Rattle.ranked_writer.proofs.Filling.{turn, table_start, table_next, table_room, table_end, end_here}
use Rattle.ranked_writer.proofs.Keeping.{kept_start, kept_next, kept_end, stage_block, stage_end, now_agree, now_below}
use Rattle.ranked_writer.proofs.tables.path_table.Goals as goal

pub loop-e-init : goal.loop-e-init
loop-e-init c = let a = c.args in
    let k = a.p.candidates in (
      table_start a.w a.table.now k (stage_block a.w a.table.now k a.p.digits a.m a.links.now a.words.now),
      kept_start k (stays a.m) (stage_end a.w a.table.now k a.p.digits a.m a.links.now
          a.words.now) a.words.now c.requires.ready.kept.words_long,
    )

pub overflow_mul-e-end : goal.overflow_mul-e-end
overflow_mul-e-end c = omega (
  arith,
  square_small c.args.p.candidates
      c.requires.ready.kept.ranked.k_most,
)

pub path_entry-next-requires : goal.path_entry-next-requires
path_entry-next-requires c = let a = c.args in
    let k = a.p.candidates in
    let l = c.loop-e in
    let t = turn c.requires.ready.kept.ranked.k_most c.loop-e-test.true in
    let block = stage_block a.w a.table.now k a.p.digits a.m a.links.now a.words.now in
    let same = now_agree a.w a.table.now k a.p.digits a.m a.links.now a.words.now l.e
    l.words l.invariant.1 c.requires.stage t.few l.next.wire in
    record {
      entry = record {
        kept = record {
          ranked = c.requires.ready.kept.ranked;
          words_long = l.invariant.1.long;
          wires_long = c.requires.ready.kept.wires_long;
          below = now_below a.w a.table.now k a.p.digits a.m a.links.now a.words.now l.e
              l.words l.invariant.1 l.table l.next l.invariant.0
              c.requires.ready.kept.below;
        };
        number = t.few;
        room = room_less l.next _ _ (omega (arith, ap length same))
            (table_room a.w a.table.now k block l.e l.table l.next t.few
            c.requires.ready.room l.invariant.0);
      };
      stage = c.requires.stage;
    }

pub loop-e-preserved : goal.loop-e-preserved
loop-e-preserved c = let a = c.args in
    let k = a.p.candidates in
    let l = c.loop-e in
    let t = turn c.requires.ready.kept.ranked.k_most c.loop-e-test.true in
    let h = c.path_entry-next in
    let block = stage_block a.w a.table.now k a.p.digits a.m a.links.now a.words.now in
    let same = now_agree a.w a.table.now k a.p.digits a.m a.links.now a.words.now l.e
    l.words l.invariant.1 c.requires.stage t.few l.next.wire in
    let more = table_next a.w a.table.now k block l.e l.table l.next h.new.table h.result
    l.invariant.0 (wrote_as l.next l.table _ _ h.new.table h.result same h.ensures.wrote) in (
      more,
      kept_next k (stays a.m) (stage_end a.w a.table.now k a.p.digits a.m a.links.now
          a.words.now) a.words.now l.e l.words h.new.words
          (h.result.wire - suc a.p.digits) t.few t.small l.invariant.1 h.ensures.kept
          (ap (λ (x : ℕ). x - suc a.p.digits)
          (end_here a.w a.table.now k block l.e (l.e / k) (l.e % k) h.new.table h.result
          t.number more)),
    )

pub returns : goal.returns
returns c = let a = c.args in
    let k = a.p.candidates in
    let l = c.loop-e in
    let all : k * k ≤ l.e = omega arith in
    record {
      wrote = table_end a.w a.table.now k
          (stage_block a.w a.table.now k a.p.digits a.m a.links.now a.words.now) l.e
          l.table l.next all l.auto.e-end l.invariant.0;
      kept = kept_end k (stays a.m)
          (stage_end a.w a.table.now k a.p.digits a.m a.links.now a.words.now) a.words.now
          l.e l.words all l.invariant.1;
    }

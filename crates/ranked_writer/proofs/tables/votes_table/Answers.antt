-- `ranked_writer::tables::votes_table` meets its contract: a counter for each pair of candidates.
-- Assumes nothing.
use mathlib.Core.Path.{◌∙◌, ap}
use mathlib.Core.Bool.{Bool, cond}
use Prim.Native.Nat.{ℕ, suc, ◌-◌, ◌*◌, ◌/◌, ◌%◌, ◌≤◌}
use native.Mathlib.Omega.{arith}
use borrow.Author.Tests.{ne_eqb}
use lib.Dec.{eqb}
use Rattle.ranked_blocks.specs.Ranked.{kept_of}
use Rattle.ranked_blocks.proofs.Entering.{square_small}
use Rattle.ranked_writer.proofs.Filling.{turn, table_start, table_next, table_room, table_end, table_from, end_here}
use Rattle.ranked_writer.proofs.Keeping.{kept_start, kept_next, kept_end}
use Rattle.ranked_writer.proofs.tables.votes_table.Invariants.{block, end}
use Rattle.ranked_writer.proofs.tables.votes_table.Goals as goal

pub loop-e-init : goal.loop-e-init
loop-e-init c = let a = c.args in (
  table_start a.w a.table.now a.p.candidates (block a.p),
  kept_start a.p.candidates eqb (end a.w.wire a.p) a.words.now c.requires.words_long,
)

pub overflow_mul-e-end : goal.overflow_mul-e-end
overflow_mul-e-end c = omega (
  arith,
  square_small c.args.p.candidates
      c.requires.ranked.k_most,
)

pub votes_entry-next-requires : goal.votes_entry-next-requires
votes_entry-next-requires c = let a = c.args in
    let l = c.loop-e in
    let t = turn c.requires.ranked.k_most c.loop-e-test.true in
    record {
      ranked = c.requires.ranked;
      room = table_room a.w a.table.now a.p.candidates (block a.p) l.e l.table l.next
          t.few c.requires.room l.invariant.0;
      number = t.few;
      ballots_below = omega (
        arith,
        table_from a.w a.table.now a.p.candidates (block a.p) l.e
            l.table l.next l.invariant.0,
        c.requires.ballots_below,
      );
      words_long = l.invariant.1.long;
    }

pub loop-e-preserved : goal.loop-e-preserved
loop-e-preserved c = let a = c.args in
    let k = a.p.candidates in
    let l = c.loop-e in
    let t = turn c.requires.ranked.k_most c.loop-e-test.true in
    let h = c.votes_entry-next in
    let more = table_next a.w a.table.now k (block a.p) l.e l.table l.next h.new.table
    h.result l.invariant.0 h.ensures.wrote in (
      more,
      kept_next k eqb (end a.w.wire a.p) a.words.now l.e l.words h.new.words
          (h.result.wire - suc a.p.digits) t.few t.small l.invariant.1 h.ensures.kept
          (ap (λ (x : ℕ). x - suc a.p.digits)
          (end_here a.w a.table.now k (block a.p) l.e (l.e / k) (l.e % k) h.new.table
          h.result t.number more)),
    )

pub returns : goal.returns
returns c = let a = c.args in
    let k = a.p.candidates in
    let l = c.loop-e in
    let all : k * k ≤ l.e = omega arith in
    let u = kept_end k eqb (end a.w.wire a.p) a.words.now l.e l.words all l.invariant.1 in
    record {
      wrote = table_end a.w a.table.now k (block a.p) l.e l.table l.next all l.auto.e-end l.invariant.0;
      kept = record {
        long = u.long;
        each = λ i j hi hj ne. u.each i j hi hj ne
            ∙ ap (λ (t : Bool). cond t (kept_of a.words.now k i j) (end a.w.wire a.p i j)) (ne_eqb i j ne);
      };
    }

-- `ranked_writer::tables::meetings_table` meets its contract: a meeting for each pair of candidates before the last
-- one.
-- Assumes nothing.
use mathlib.Core.Path.{◌≡◌, ap}
use mathlib.Core.Bool.{Bool}
use mathlib.Core.List.{List}
use Prim.Native.Nat.{ℕ, ◌-◌, ◌*◌, ◌/◌, ◌%◌, ◌≤◌}
use native.Mathlib.Omega.{arith}
use lib.Dec.{ltb}
use lib.ListN.{length}
use Rattle.gates.specs.Gate.{Gate}
use Rattle.gate_words.specs.declared.writer.Writer.{Writer}
use Rattle.gate_words.proofs.Writing.{room_less, wrote_as}
use Rattle.ranked_circuit.specs.Table.{entry_end}
use Rattle.ranked_circuit.specs.Stages.{link_at}
use Rattle.ranked_blocks.specs.declared.entries.Ranks.{Ranks}
use Rattle.ranked_blocks.proofs.Entering.{square_small}
use Rattle.ranked_writer.proofs.Filling.{turn, TableTo, table_start, table_next, table_room, table_end, table_from, end_here}
use Rattle.ranked_writer.proofs.Keeping.{LinksTo, links_start, links_next, links_end, met_agree}
use Rattle.ranked_writer.proofs.tables.meetings_table.Invariants.{block}
use Rattle.ranked_writer.proofs.tables.meetings_table.Goals as goal

-- after e blocks

pub record Inv (p : Ranks) (k : ℕ) (block : ℕ → ℕ → ℕ → List Gate) (rows : ℕ → Bool) (w₀ : Writer)
    (table₀ wires₀ : List ℕ) (e : ℕ) (table wires : List ℕ) (next : Writer) : Type 0 where
  pub same : k ≡ p.candidates
  pub few : e ≤ p.candidates * p.candidates
  pub wrote : TableTo w₀ table₀ p.candidates block e table next
  pub kept : LinksTo p.candidates rows (entry_end w₀.wire p.candidates block) wires₀ e wires

pub loop-e-init : goal.loop-e-init
loop-e-init c = let a = c.args in
    let k = a.p.candidates in (
      table_start a.w a.table.now k (block a.p a.words.now a.met.now),
      links_start k (λ i. ltb i (k - 1)) (entry_end a.w.wire k (block a.p a.words.now a.met.now)) a.met.now c.requires.kept.wires_long,
    )

pub overflow_mul-e-end : goal.overflow_mul-e-end
overflow_mul-e-end c = omega (
  arith,
  square_small c.args.p.candidates c.requires.kept.ranked.k_most,
)

pub meetings_entry-next-requires : goal.meetings_entry-next-requires
meetings_entry-next-requires c = let a = c.args in
    let k = a.p.candidates in
    let l = c.loop-e in
    let t = turn c.requires.kept.ranked.k_most c.loop-e-test.true in
    let from = table_from a.w a.table.now k (block a.p a.words.now a.met.now) l.e l.table l.next l.invariant.0 in
    let b = c.requires.kept.below in
    record {
      kept = record {
        ranked = c.requires.kept.ranked;
        words_long = c.requires.kept.words_long;
        wires_long = l.invariant.1.long;
        below = λ i j hi hj ne. omega (arith, from, b i j hi hj ne);
      };
      number = t.few;
      room =
          room_less l.next _ _ (omega (
            arith,
            ap length (met_agree k a.p.digits a.words.now a.met.now (entry_end a.w.wire k (block a.p a.words.now a.met.now))
                l.e l.met l.invariant.1 l.next.wire t.few),
          ))
          (table_room a.w a.table.now k (block a.p a.words.now a.met.now) l.e l.table l.next t.few c.requires.room
          l.invariant.0);
    }

pub loop-e-preserved : goal.loop-e-preserved
loop-e-preserved c = let a = c.args in
    let k = a.p.candidates in
    let l = c.loop-e in
    let t = turn c.requires.kept.ranked.k_most c.loop-e-test.true in
    let h = c.meetings_entry-next in
    let more = table_next a.w a.table.now k (block a.p a.words.now a.met.now) l.e l.table l.next
    h.new.table h.result l.invariant.0
    (wrote_as l.next l.table _ _ h.new.table h.result
    (met_agree k a.p.digits a.words.now a.met.now
    (entry_end a.w.wire k (block a.p a.words.now a.met.now)) l.e l.met
    l.invariant.1 l.next.wire t.few) h.ensures.wrote) in (
      more,
      links_next k (λ i. ltb i (k - 1))
          (entry_end a.w.wire k (block a.p a.words.now a.met.now)) a.met.now
          c.requires.kept.ranked.k_most l.e l.met h.new.met h.result.wire t.row
          t.column l.invariant.1 h.ensures.kept
          (end_here a.w a.table.now k (block a.p a.words.now a.met.now) l.e (l.e / k) (l.e % k)
          h.new.table h.result t.number more),
    )

pub returns : goal.returns
unfolding link_at
returns c = let a = c.args in
    let k = a.p.candidates in
    let l = c.loop-e in
    let all : k * k ≤ l.e = omega arith in
    record {
      wrote = table_end a.w a.table.now k (block a.p a.words.now a.met.now) l.e l.table l.next all l.auto.e-end l.invariant.0;
      kept = links_end k (λ i. ltb i (k - 1)) (entry_end a.w.wire k (block a.p a.words.now a.met.now)) a.met.now l.e l.met all l.invariant.1;
    }

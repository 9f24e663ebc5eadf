-- `ranked_writer::losers::loser_rows` meets its contract: a row for each candidate.
-- Assumes nothing.
use mathlib.Core.Path.{◌≡◌, refl}
use Prim.Native.Nat.{ℕ, ◌-◌, ◌*◌}
use native.Mathlib.Omega.{arith}
use lib.ListN.{length}
use Rattle.gate_words.specs.declared.writer.Writer.{Writer}
use Rattle.gate_words.specs.Writing.{Room}
use Rattle.gate_words.proofs.Writing.{room_less, wrote_as}
use Rattle.ranked_circuit.specs.Table.{blocks}
use Rattle.ranked_circuit.specs.RankedList.{loser_row, loser_rows}
use Rattle.ranked_circuit.proofs.TableLaws.{length_same}
use Rattle.ranked_circuit.proofs.LoserLaws.{row_length}
use Rattle.ranked_blocks.specs.Ranked.{kept_of}
use Rattle.ranked_writer.proofs.Filling.{fill_start, fill_next, fill_room, fill_end}
use Rattle.ranked_writer.proofs.losers.loser_rows.Goals as goal

pub loop-i-init : goal.loop-i-init
loop-i-init c = let a = c.args in
    fill_start a.w a.table.now (loser_row (kept_of a.beats.now a.k) (a.k - 2))

rows_room : (w : Writer) (beats : ℕ → ℕ → ℕ) (k r : ℕ) → Room w (k * r) → Room w (length (blocks w.wire (loser_row beats r) k))
rows_room w beats k r room = room_less w _ _
    (omega (arith, length_same w.wire (loser_row beats r) r (λ at i. row_length beats r at i) k)) room

pub loser_row-next-requires : goal.loser_row-next-requires
loser_row-next-requires c = let a = c.args in
    let l = c.loop-i in
    let b = loser_row (kept_of a.beats.now a.k) (a.k - 2) in
    let room = fill_room a.w a.table.now b l.i a.k l.table l.next c.loop-i-test.true
    (rows_room a.w (kept_of a.beats.now a.k) a.k (a.k - 2)
    c.requires.room) l.invariant in
    record {
      room = room_less l.next _ _ (omega (arith, row_length (kept_of a.beats.now a.k) (a.k - 2) l.next.wire l.i)) room;
      k_least = c.requires.k_least;
      k_most = c.requires.k_most;
      row = c.loop-i-test.true;
      long = c.requires.long;
    }

pub loop-i-preserved : goal.loop-i-preserved
loop-i-preserved c = let a = c.args in
    let l = c.loop-i in
    let h = c.loser_row-next in
    fill_next a.w a.table.now (loser_row (kept_of a.beats.now a.k) (a.k - 2)) l.i l.table
    l.next h.new.table h.result l.invariant h.ensures

rows_are : (beats : ℕ → ℕ → ℕ) (r n k : ℕ) → blocks n (loser_row beats r) k ≡ loser_rows beats r n k
rows_are beats r n k = unfold loser_rows in refl

pub returns : goal.returns
returns c = let a = c.args in
    let l = c.loop-i in
    wrote_as a.w a.table.now _ _ l.table l.next (rows_are (kept_of a.beats.now a.k) (a.k - 2) a.w.wire a.k)
    (fill_end a.w a.table.now (loser_row (kept_of a.beats.now a.k) (a.k - 2)) l.i a.k l.table
    l.next (omega (arith, c.loop-i-test.false)) (omega arith) l.invariant)

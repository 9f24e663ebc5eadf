-- `ranked_writer::losers::loser_row` meets its contract: each gate joins two operands.
-- Assumes nothing.
use mathlib.Core.Path.{◌≡◌, ◌∙◌, refl, ap}
use mathlib.Core.List.{[], ◌∷◌}
use Prim.Native.Nat.{ℕ, suc, ◌+◌, ◌-◌, ◌*◌}
use native.Mathlib.Omega.{arith}
use Rattle.gate_words.specs.Gates.{or_of}
use Rattle.gate_words.proofs.Writing.{wrote_as}
use Rattle.gate_words.proofs.Emitting.{or_wrote}
use Rattle.ranked_circuit.specs.Table.{blocks}
use Rattle.ranked_circuit.specs.RankedList.{joined_wire, loser_row}
use Rattle.ranked_blocks.specs.Ranked.{kept_of}
use Rattle.ranked_writer.proofs.Filling.{fill_start, fill_next, fill_room, fill_end, single_room}
use Rattle.ranked_writer.proofs.losers.loser_row.Invariants.{gate}
use Rattle.ranked_writer.proofs.losers.loser_row.Goals as goal

pub loop-t-init : goal.loop-t-init
loop-t-init c = let a = c.args in
    fill_start a.w a.table.now (gate a.beats.now a.k a.w.wire a.i)

pub joined-a-requires : goal.joined-a-requires
joined-a-requires c = record {
  k_least = c.requires.k_least;
  k_most = c.requires.k_most;
  row = c.requires.row;
  few = omega (arith, c.loop-t-test.true, c.requires.k_most);
  small = omega (arith, c.requires.room.small);
  long = c.requires.long;
}

pub joined-b-requires : goal.joined-b-requires
joined-b-requires c = record {
  k_least = c.requires.k_least;
  k_most = c.requires.k_most;
  row = c.requires.row;
  few = omega (arith, c.loop-t-test.true, c.requires.k_most);
  small = omega (arith, c.requires.room.small);
  long = c.requires.long;
}

pub emit-next-requires : goal.emit-next-requires
emit-next-requires c = let a = c.args in
    let l = c.loop-t in
    let b = gate a.beats.now a.k a.w.wire a.i in
    fill_room a.w a.table.now b l.t (a.k - 2) l.table l.next
    c.loop-t-test.true
    (single_room a.w b (a.k - 2) (λ at e. refl) c.requires.room) l.invariant

pub loop-t-preserved : goal.loop-t-preserved
loop-t-preserved c = let a = c.args in
    let l = c.loop-t in
    let h = c.emit-next in
    let b = gate a.beats.now a.k a.w.wire a.i in
    fill_next a.w a.table.now b l.t l.table l.next h.new.table h.result l.invariant
    (wrote_as l.next l.table _ _ h.new.table h.result
    (ap (λ (x : ℕ). or_of x c.joined-b.result ∷ [])
    c.joined-a.ensures
    ∙ ap (λ (x : ℕ). or_of (joined_wire (kept_of a.beats.now a.k) (suc (a.k - 2)) a.w.wire a.i
    (2 * l.t)) x ∷ []) c.joined-b.ensures)
    (or_wrote l.next l.table h.new.table h.result _ _ 0 h.ensures))

row_is : (beats : ℕ → ℕ → ℕ) (r at i : ℕ)
    → blocks at (λ wire t. or_of (joined_wire beats (suc r) at i (2 * t)) (joined_wire beats (suc r) at i (2 * t + 1)) ∷ []) r
    ≡ loser_row beats r at i
row_is beats r at i = unfold loser_row in refl

pub returns : goal.returns
returns c = let a = c.args in
    let l = c.loop-t in
    wrote_as a.w a.table.now _ _ l.table l.next (row_is (kept_of a.beats.now a.k) (a.k - 2) a.w.wire a.i)
    (fill_end a.w a.table.now (gate a.beats.now a.k a.w.wire a.i) l.t (a.k - 2) l.table
    l.next (omega (arith, c.loop-t-test.false)) (omega arith) l.invariant)

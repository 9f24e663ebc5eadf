-- `ranked_writer::losers::output_gates` meets its contract: the complement of what each row says.
-- Assumes nothing.
use mathlib.Core.Path.{◌≡◌, ◌∙◌, refl, ap}
use mathlib.Core.List.{[], ◌∷◌}
use Prim.Native.Nat.{ℕ, suc, ◌+◌, ◌-◌, ◌*◌, ◌≤◌, ◌<◌}
use native.Mathlib.Nat.{mul-le-mul, mul-le-mul_right}
use native.Mathlib.Omega.{arith}
use Rattle.jury.specs.Shape.{most_candidates, most_pairs}
use Rattle.gate_words.specs.Gates.{not_of}
use Rattle.gate_words.proofs.Writing.{wrote_as}
use Rattle.gate_words.proofs.Emitting.{not_wrote}
use Rattle.ranked_circuit.specs.Table.{blocks}
use Rattle.ranked_circuit.specs.RankedList.{joined_wire, output_gates}
use Rattle.ranked_blocks.specs.Ranked.{kept_of}
use Rattle.ranked_writer.proofs.Filling.{fill_start, fill_next, fill_room, fill_end, single_room}
use Rattle.ranked_writer.proofs.losers.output_gates.Invariants.{gate}
use Rattle.ranked_writer.proofs.losers.output_gates.Goals as goal

pub loop-i-init : goal.loop-i-init
loop-i-init c = let a = c.args in fill_start a.w a.table.now (gate a.beats.now a.k a.rows)

-- a row starts before the output gates
row_low : (k i : ℕ) → k ≤ most_candidates → i < k → (i * (k - 2) ≤ most_pairs) × (i * (k - 2) ≤ k * (k - 2))
row_low k i h l = (
  mul-le-mul {n₁ = i} {m₁ = k - 2} {n₂ = most_candidates} {m₂ = most_candidates} (omega arith) (omega arith),
  mul-le-mul_right {m = i} {n = k} (k - 2) (omega arith),
)

pub overflow_mul-i : goal.overflow_mul-i
overflow_mul-i c = omega (
  arith,
  row_low c.args.k c.loop-i.i
      c.requires.k_most c.loop-i-test.true,
)

pub overflow_add-rows : goal.overflow_add-rows
overflow_add-rows c = omega (
  arith,
  row_low c.args.k c.loop-i.i
      c.requires.k_most c.loop-i-test.true,
  c.requires.place,
  c.requires.room.small,
)

pub joined-lost-requires : goal.joined-lost-requires
joined-lost-requires c = record {
  k_least = c.requires.k_least;
  k_most = c.requires.k_most;
  row = c.loop-i-test.true;
  few = omega (arith, c.requires.k_most);
  small = omega (
    arith,
    row_low c.args.k c.loop-i.i
        c.requires.k_most c.loop-i-test.true,
    c.requires.place,
    c.requires.room.small,
  );
  long = c.requires.long;
}

pub emit-next-requires : goal.emit-next-requires
emit-next-requires c = let a = c.args in
    let l = c.loop-i in
    let b = gate a.beats.now a.k a.rows in
    fill_room a.w a.table.now b l.i a.k l.table l.next c.loop-i-test.true
    (single_room a.w b a.k (λ at e. refl) c.requires.room) l.invariant

pub loop-i-preserved : goal.loop-i-preserved
loop-i-preserved c = let a = c.args in
    let l = c.loop-i in
    let h = c.emit-next in
    fill_next a.w a.table.now (gate a.beats.now a.k a.rows) l.i l.table l.next
    h.new.table h.result l.invariant
    (wrote_as l.next l.table _ _ h.new.table h.result
    (ap (λ (x : ℕ). not_of x ∷ []) c.joined-lost.ensures)
    (not_wrote l.next l.table h.new.table h.result _ 0 0 h.ensures))

outputs_are : (beats : ℕ → ℕ → ℕ) (r rows k wire : ℕ) → wire ≡ rows + k * r
    → blocks wire (λ at i. not_of (joined_wire beats (suc r) (rows + i * r) i (2 * r)) ∷ []) k ≡ output_gates beats r rows k
outputs_are beats r rows k wire q =
    ap (λ (x : ℕ). blocks x (λ at i. not_of (joined_wire beats (suc r) (rows + i * r) i (2 * r)) ∷ []) k) q
    ∙ unfold output_gates in refl

pub returns : goal.returns
returns c = let a = c.args in
    let l = c.loop-i in
    wrote_as a.w a.table.now _ _ l.table l.next
    (outputs_are (kept_of a.beats.now a.k) (a.k - 2) a.rows a.k a.w.wire
    c.requires.place)
    (fill_end a.w a.table.now (gate a.beats.now a.k a.rows) l.i a.k l.table l.next
    (omega (arith, c.loop-i-test.false)) (omega arith) l.invariant)

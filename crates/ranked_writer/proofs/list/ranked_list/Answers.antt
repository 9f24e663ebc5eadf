-- `ranked_writer::list::ranked_list` meets its contract: one gate for a single candidate, else the circuit.
-- Assumes nothing.
use mathlib.Core.Path.{◌≡◌, ◌∙◌, refl, sym, ap, subst}
use mathlib.Core.List.{List, [], ◌∷◌}
use Prim.Native.Nat.{ℕ, ◌-◌, ◌*◌, ◌≤◌}
use native.Mathlib.Nat.{mul-le-mul}
use native.Mathlib.Omega.{arith}
use lib.ListN.{length}
use Rattle.gates.specs.Gate.{Gate}
use Rattle.gate_words.specs.Gates.{constant}
use Rattle.gate_words.specs.Counter.{Countable}
use Rattle.gate_words.specs.declared.writer.Writer.{Writer}
use Rattle.gate_words.specs.Writing.{Room, Wrote}
use Rattle.gate_words.proofs.Writing.{wrote_as}
use Rattle.gate_words.proofs.Emitting.{constant_wrote}
use Rattle.jury.specs.Width.{width_of}
use Rattle.jury.proofs.WidthLaws.{width_half, width_most}
use Rattle.ranked_blocks.specs.Ranked.{Ranked}
use Rattle.ranked_circuit.specs.RankedList.{ranked_list}
use Rattle.ranked_circuit.specs.OwnRanking.{own_ranking}
use Rattle.ranked_circuit.proofs.SizeLaws.{bound_small}
use Rattle.ranked_circuit.proofs.OwnRankingLaws.{ranking_countable, own_ranking_holds}
use Rattle.ranked_writer.proofs.list.ranked_list.Goals as goal
use Rattle.ranked_writer.proofs.list.ranked_list.Goals.{After-width}

bytes : (k n : ℕ) → k ≤ 8 → n ≤ 255 → (n * k ≤ 2040) × (n * k * k ≤ 16320)
bytes k n h g =
    let two : n * k ≤ 255 * 8 = mul-le-mul {n₁ = n} {m₁ = k} {n₂ = 255} {m₂ = 8} g h in
    (omega arith, mul-le-mul {n₁ = n * k} {m₁ = k} {n₂ = 2040} {m₂ = 8} two h)

single : (k n : ℕ) → k ≡ 1 → constant 1 ∷ [] ≡ own_ranking k n
single k n e = sym (ap (λ (x : ℕ). own_ranking x n) e ∙ unfold own_ranking ranked_list in refl)

short : (k n : ℕ) → 1 ≤ k → k ≤ 8 → 1 ≤ n → n ≤ 255 → length (own_ranking k n) ≤ 400000
short k n lk hk ln hn = omega (arith, (own_ranking_holds k n lk hk ln hn).bounded, bound_small k n (width_of n) hk hn (width_most n hn))

list_is : (k n w : ℕ) → w ≡ width_of n - 1 → ranked_list k n w ≡ own_ranking k n
list_is k n w e = ap (ranked_list k n) e ∙ unfold own_ranking in refl

-- the width of the number of ballots is 1 to 8
widths : (n : ℕ) → 1 ≤ n → n ≤ 255 → (1 ≤ width_of n) × (width_of n ≤ 8)
widths n l h = (omega (arith, width_half n l), width_most n h)

first_room : (w : Writer) (bytes m : ℕ) → w ≡ record { gate = 0; wire = bytes; conditional = 0 } → bytes ≤ 16320 → m ≤ 400000 → Room w m
first_room w bytes m e h l =
    record {
      few = omega (arith, ap (λ (v : Writer). v.gate) e);
      small = omega (arith, ap (λ (v : Writer). v.wire) e);
      counted = omega (arith, ap (λ (v : Writer). v.conditional) e, ap (λ (v : Writer). v.gate) e);
    }

pub returns-then-candidates-eq1 : goal.returns-then-candidates-eq1
returns-then-candidates-eq1 c = let a = c.args in
    let e = c.emit in
    subst (λ (v : Writer). Wrote v a.table.now (own_ranking a.candidates a.ballots) e.new.table
    e.result) c.new-w.ensures
    (wrote_as c.new-w.result a.table.now _ _ e.new.table e.result
    (single a.candidates a.ballots c.if-candidates-eq1.true)
    (constant_wrote c.new-w.result a.table.now e.new.table e.result 0 0 0 1
    e.ensures))

pub overflow_cast-digits : goal.overflow_cast-digits
overflow_cast-digits c = omega (
  arith,
  c.width.ensures,
  widths c.args.ballots c.requires.n_least
      c.requires.n_most,
)

pub overflow_sub-digits : goal.overflow_sub-digits
overflow_sub-digits c = omega (
  arith,
  c.width.ensures,
  widths c.args.ballots c.requires.n_least
      c.requires.n_most,
)

-- the number of digits above the lowest
digits_are : (c : After-width) → c.width.result - 1 ≡ width_of c.args.ballots - 1
digits_are c = ap (λ (x : ℕ). x - 1) c.width.ensures

can_count : (c : After-width) → Countable c.args.ballots 0 (c.width.result - 1)
can_count c = subst (Countable c.args.ballots 0) (sym (digits_are (c)))
    (ranking_countable c.args.ballots
    c.requires.n_least)

same_list : (c : After-width)
    → ranked_list c.args.candidates
    c.args.ballots (c.width.result - 1)
    ≡ own_ranking c.args.candidates
    c.args.ballots
same_list c = list_is c.args.candidates
    c.args.ballots (c.width.result - 1) (digits_are (c))

room : (c : After-width) → Room c.new-w.result
    (length (ranked_list c.args.candidates
    c.args.ballots (c.width.result - 1)))
room c =
    let a = c.args in
    let few = short a.candidates a.ballots c.requires.k_least
    c.requires.k_most c.requires.n_least
    c.requires.n_most in
    first_room c.new-w.result _ _ c.new-w.ensures
    (bytes a.candidates a.ballots c.requires.k_most
    c.requires.n_most).1
    (omega (arith, few, ap (λ (gs : List Gate). length gs) (same_list (c))))

ranked : (c : After-width)
    → Ranked (record {
      candidates = c.args.candidates;
      ballots =
          c.args.ballots;
      digits = c.width.result - 1;
    })
ranked c =
    record {
      k_least = two c.args.candidates
          c.requires.k_least c.if-candidates-eq1.false;
      k_most = c.requires.k_most;
      n_least = c.requires.n_least;
      n_most = c.requires.n_most;
      w_most = omega (
        arith,
        c.width.ensures,
        widths c.args.ballots
            c.requires.n_least c.requires.n_most,
      );
      countable = can_count (c);
    }
  where
    two : (k : ℕ) → 1 ≤ k → (k ≡ 1 → ⊥) → 2 ≤ k
    two k l h = omega arith

pub pair_circuit-requires : goal.pair_circuit-requires
pair_circuit-requires c = record {
  ranked = ranked (goal.at.pair_circuit-requires c).After-width;
  room = room (goal.at.pair_circuit-requires c).After-width;
  two = c.if-candidates-eq2.true;
  place = ap (λ (v : Writer). v.wire) c.new-w.ensures;
}

pub circuit-requires : goal.circuit-requires
circuit-requires c = record {
  ranked = ranked (goal.at.circuit-requires c).After-width;
  room = room (goal.at.circuit-requires c).After-width;
  many = three c.args.candidates c.requires.k_least c.if-candidates-eq1.false c.if-candidates-eq2.false;
  place = ap (λ (v : Writer). v.wire) c.new-w.ensures;
}
  where
    three : (k : ℕ) → 1 ≤ k → (k ≡ 1 → ⊥) → (k ≡ 2 → ⊥) → 3 ≤ k
    three k l h g = omega arith

pub returns-then-candidates-eq2 : goal.returns-then-candidates-eq2
returns-then-candidates-eq2 c = let a = c.args in
    let e = c.pair_circuit in
    subst (λ (v : Writer). Wrote v a.table.now (own_ranking a.candidates a.ballots) e.new.table
    e.result) c.new-w.ensures
    (wrote_as c.new-w.result a.table.now _ _ e.new.table
    e.result (same_list (goal.at.returns-then-candidates-eq2 c).After-width) e.ensures)

pub returns : goal.returns
returns c = let a = c.args in
    let e = c.circuit in
    subst (λ (v : Writer). Wrote v a.table.now (own_ranking a.candidates a.ballots) e.new.table
    e.result) c.new-w.ensures
    (wrote_as c.new-w.result a.table.now _ _ e.new.table
    e.result (same_list (goal.at.returns c).After-width) e.ensures)

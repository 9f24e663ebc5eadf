-- `trustee_gates::evaluate::evaluate` meets its contract: the inputs are copied, the gates are run, and the closing
-- bits are copied.
-- Assumes nothing.
use mathlib.Core.Path.{◌≡◌, ◌∙◌, refl, sym, ap}
use Prim.Native.Nat.{ℕ, ◌+◌, ◌*◌, ◌/◌, ◌≤◌, ◌<◌}
use native.Mathlib.Omega.{arith}
use lib.ListN.{length}
use Rattle.gates.specs.Gate.{gates_of}
use Rattle.gates.proofs.Table.{length_gates}
use Rattle.gates.proofs.Counting.{count_most}
use Rattle.trustee_shares.specs.Views.{Dealing}
use Rattle.trustee_gates.proofs.Evaluating.{copied_long, wires_are, wires_long, published_long, all_published}
use Rattle.trustee_gates.proofs.evaluate.evaluate.Goals as goal
use Rattle.trustee_gates.proofs.evaluate.evaluate.Goals.{Start}

abbrev dealing : Start → Dealing
dealing s = record { ballot_parts = s.args.shares.now; dealer_parts = s.args.triples.now }

-- the number of gates, from the length of the table
size_is : (s : Start) → s.args.inputs + length s.args.table.now / 4 ≡ s.args.inputs + length (gates_of s.args.table.now)
size_is s = omega (arith, length_gates s.args.table.now)

wires_length : (s : Start) → length s.args.wires.now ≡ s.args.t * (s.args.inputs + length s.args.table.now / 4)
wires_length s = s.requires.wires_length ∙ ap (λ (n : ℕ). s.args.t * n) (sym (size_is s))

small : (s : Start) → (s.args.conditional < 1073741824) × (s.args.k < 1073741824)
    × (s.args.k ≤ length s.args.table.now / 4)
    × (s.args.inputs + length s.args.table.now / 4 < 1073741824)
small s =
    let r = s.requires in
    let n = length_gates s.args.table.now in
    let m = count_most (gates_of s.args.table.now) in
    (omega (arith, r.few, r.conditional_is), omega (arith, r.few, r.enough), omega (arith, r.enough), omega (arith, r.few))

pub overflow_mul-factors : goal.overflow_mul-factors
overflow_mul-factors c = omega (arith, small (goal.at.overflow_mul-factors c).Start)

pub overflow_mul-pieces : goal.overflow_mul-pieces
overflow_mul-pieces c = omega (arith, small (goal.at.overflow_mul-pieces c).Start)

pub overflow_add-pieces : goal.overflow_add-pieces
overflow_add-pieces c = omega (arith, small (goal.at.overflow_add-pieces c).Start)

pub copy_pieces-requires : goal.copy_pieces-requires
copy_pieces-requires c = record {
  source_length = c.requires.ballot_length;
  source_fits = omega arith;
  target_length = wires_length (goal.at.copy_pieces-requires c).Start;
  target_fits = omega arith;
}

pub run_gates-requires : goal.run_gates-requires
run_gates-requires c = let a = c.args in
    let r = c.requires in
    record {
      some_input = r.some_input;
      few = r.few;
      good = r.good;
      wires_size = size_is (goal.at.run_gates-requires c).Start;
      triples_size = omega (arith, r.conditional_is);
      published_size = omega (arith, r.conditional_is);
      wires_length =
          copied_long a.t a.inputs (gates_of a.table.now) a.k (dealing (goal.at.run_gates-requires c).Start)
          a.wires.now
          a.published.now (a.inputs + length a.table.now / 4) (2 * a.conditional + a.k) a.conditional
          c.requires.conditional_is (size_is (goal.at.run_gates-requires c).Start) c.requires.enough refl
          c.requires.ballot_length (wires_length (goal.at.run_gates-requires c).Start)
          c.requires.published_length _ c.copy_pieces.ensures;
      triples_length = r.triples_length;
      published_length = r.published_length;
    }

pub overflow_sub-size : goal.overflow_sub-size
overflow_sub-size c = omega (arith, small (goal.at.overflow_sub-size c).Start)

pub overflow_add-factors : goal.overflow_add-factors
overflow_add-factors c = omega (arith, small (goal.at.overflow_add-factors c).Start)

pub copy_pieces-requires-2 : goal.copy_pieces-requires-2
copy_pieces-requires-2 c = let a = c.args in
    record {
      source_length =
          wires_long a.t a.inputs (gates_of a.table.now) a.k
          (dealing (goal.at.copy_pieces-requires-2 c).Start) a.wires.now
          a.published.now (a.inputs + length a.table.now / 4) (2 * a.conditional + a.k) a.conditional
          c.requires.conditional_is
          (size_is (goal.at.copy_pieces-requires-2 c).Start)
          c.requires.enough refl c.requires.ballot_length
          (wires_length (goal.at.copy_pieces-requires-2 c).Start)
          c.requires.published_length _ c.copy_pieces.ensures _ _ c.run_gates.ensures.parts
          c.run_gates.ensures.shown;
      source_fits =
          omega (arith, small (goal.at.copy_pieces-requires-2 c).Start);
      target_length =
          published_long a.t a.inputs (gates_of a.table.now) a.k
          (dealing (goal.at.copy_pieces-requires-2 c).Start) a.wires.now
          a.published.now (a.inputs + length a.table.now / 4) (2 * a.conditional + a.k) a.conditional
          c.requires.conditional_is
          (size_is (goal.at.copy_pieces-requires-2 c).Start)
          c.requires.enough refl c.requires.ballot_length
          (wires_length (goal.at.copy_pieces-requires-2 c).Start)
          c.requires.published_length _ c.copy_pieces.ensures _ _ c.run_gates.ensures.parts
          c.run_gates.ensures.shown;
      target_fits = omega arith;
    }

pub returns : goal.returns
returns c = let a = c.args in
    record {
      parts = wires_are a.t a.inputs (gates_of a.table.now) a.k
          (dealing (goal.at.returns c).Start) a.wires.now
          a.published.now (a.inputs + length a.table.now / 4) (2 * a.conditional + a.k) a.conditional
          c.requires.conditional_is
          (size_is (goal.at.returns c).Start) c.requires.enough refl c.requires.ballot_length (wires_length (goal.at.returns c).Start)
          c.requires.published_length _ c.copy_pieces.ensures _ _ c.run_gates.ensures.parts
          c.run_gates.ensures.shown;
      shown = all_published a.t a.inputs (gates_of a.table.now) a.k
          (dealing (goal.at.returns c).Start) a.wires.now
          a.published.now (a.inputs + length a.table.now / 4) (2 * a.conditional + a.k) a.conditional
          c.requires.conditional_is
          (size_is (goal.at.returns c).Start) c.requires.enough refl c.requires.ballot_length (wires_length (goal.at.returns c).Start)
          c.requires.published_length _ c.copy_pieces.ensures _ _ c.run_gates.ensures.parts
          c.run_gates.ensures.shown _ c.copy_pieces-2.ensures;
    }

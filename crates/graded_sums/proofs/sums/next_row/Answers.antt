-- `graded_sums::sums::next_row` meets its contract: it is `xor_rows` for the row before and the next grade's bits.
-- Assumes nothing.
use mathlib.Core.Path.{◌≡◌, ◌∙◌, sym, ap, subst₂}
use Prim.Native.Nat.{ℕ, suc}
use native.Mathlib.Numerals.{add-one}
use native.Mathlib.Omega.{arith}
use Rattle.gate_words.specs.Word.{Below}
use Rattle.graded_circuit.specs.Plan.{bits_at}
use Rattle.graded_circuit.proofs.PlanFacts.{bits_below}
use Rattle.graded_circuit.proofs.CandidateBlocks.{counted_below}
use Rattle.graded_sums.proofs.Writers.{apart_most, row_apart_most}
use Rattle.graded_sums.proofs.sums.next_row.Goals as goal
use Rattle.graded_sums.proofs.sums.next_row.Goals.{After-apart-stride}

-- the wire of the next grade's bits
bits_are : (c : After-apart-stride) → c.bits_at-bits.result
    ≡ bits_at c.args.p c.args.c (suc c.args.g)
bits_are c =
    let a = c.args in c.bits_at-bits.ensures ∙ ap (bits_at a.p a.c) (add-one a.g)

pub xor_rows-requires : goal.xor_rows-requires
xor_rows-requires c =
    let a = c.args in
    let q = c.requires in
    let f = q.part.planned in
    let wires : ℕ → ℕ → Type 0 = λ x y. Below a.w.wire x y a.p.ballots in
    record {
      room = q.part.room;
      first_below = subst₂ wires (sym c.row_at-row.ensures) (sym c.row_apart-step.ensures)
          (counted_below a.p f a.n a.w.wire a.c a.g q.part.inputs q.part.candidate q.row);
      first_near = omega (arith, c.row_apart-step.ensures, row_apart_most a.p f a.g);
      second_below = subst₂ wires (sym (bits_are (goal.at.xor_rows-requires c).After-apart-stride)) (sym c.apart-stride.ensures)
          (bits_below a.p f a.w.wire a.c (suc a.g) (omega (arith, q.part.inputs, q.row)) q.part.candidate q.grade);
      second_near = omega (arith, c.apart-stride.ensures, apart_most a.p f);
    }

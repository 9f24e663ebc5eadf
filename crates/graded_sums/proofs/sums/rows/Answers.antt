-- `graded_sums::sums::rows` meets its contract: after each row, writing the rows left completes the block.
-- Assumes nothing.
use mathlib.Core.Path.{ap}
use Prim.Native.Nat.{ℕ, suc, ◌-◌, ◌*◌, ◌<◌}
use native.Mathlib.Nat.{suc-mul}
use native.Mathlib.Numerals.{add-one}
use native.Mathlib.Omega.{arith}
use Rattle.gate_words.proofs.Going.{goes_turn, goes_done}
use Rattle.gate_words.proofs.RowLaws.{length_rows}
use Rattle.graded_circuit.specs.Plan.{bits_at, ballot_stride}
use Rattle.graded_circuit.specs.RunningSums.{row_at, row_stride}
use Rattle.graded_sums.proofs.Writers.{rows_turn, rows_end}
use Rattle.graded_sums.proofs.sums.rows.Goals as goal

pub loop-g-preserved : goal.loop-g-preserved
loop-g-preserved c =
    let h = c.next_row-next in
    let l = c.loop-g in
    let a = c.args in
    let t : l.g < a.p.grades - 3 = omega arith in (
      omega (
        arith,
        l.invariant.0,
        h.ensures.wires,
        length_rows (row_at a.p a.w.wire a.c l.g) (row_stride a.p l.g) (bits_at a.p a.c (suc l.g))
            (ballot_stride a.p) a.p.ballots,
        ap (λ (k : ℕ). k * a.p.ballots) (add-one l.g),
        suc-mul l.g a.p.ballots,
      ),
      goes_turn (rows_turn a.p a.w.wire a.c l.g t) l.invariant.1 h.ensures,
    )

pub returns : goal.returns
returns c =
    let l = c.loop-g in
    let a = c.args in
    goes_done l.invariant.1 (rows_end a.p a.w.wire a.c l.g (a.p.grades - 3) (omega (arith, c.loop-g-test.false)))

-- `graded_sums::sums::all_levels` meets its contract: after each sum, writing the levels left completes the block.
-- Assumes nothing.
use mathlib.Core.Path.{ap}
use Prim.Native.Nat.{ℕ, ◌-◌, ◌*◌}
use native.Mathlib.Nat.{suc-mul}
use native.Mathlib.Numerals.{add-one}
use native.Mathlib.Omega.{arith}
use Rattle.gate_words.proofs.Going.{goes_turn, goes_done}
use Rattle.gate_words.proofs.CounterSteps.{length_count}
use Rattle.graded_circuit.specs.RunningSums.{sum_size, row_at, row_stride}
use Rattle.graded_sums.proofs.Writers.{levels_turn, levels_end}
use Rattle.graded_sums.proofs.sums.all_levels.Goals as goal

pub loop-g-preserved : goal.loop-g-preserved
loop-g-preserved c =
    let h = c.sum_levels-next in
    let l = c.loop-g in
    let a = c.args in
    let p = a.p in
    let t = c.loop-g-test.true in
    let m = a.w.wire in (
      omega (
        arith,
        l.invariant.0,
        h.ensures.wires,
        length_count l.next.wire (row_at p a.n a.c l.g) (row_stride p l.g) p.ballots p.offset
            p.digits,
        ap (λ (k : ℕ). k * sum_size p) (add-one l.g),
        suc-mul l.g (sum_size p),
      ),
      goes_turn (levels_turn p a.n a.c m l.g l.next.wire t l.invariant.0) l.invariant.1 h.ensures,
    )

pub returns : goal.returns
returns c =
    let l = c.loop-g in
    let a = c.args in
    goes_done l.invariant.1 (levels_end a.p a.n a.c a.w.wire l.g (a.p.grades - 2) (omega (arith, c.loop-g-test.false)))

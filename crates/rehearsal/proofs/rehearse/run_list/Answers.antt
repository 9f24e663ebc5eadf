-- `rehearsal::rehearse::run_list` meets its contract: the buffers are long enough to be cut, and the run is refused
-- only because of the ballots.
use Rattle.std.proofs.Common.{ap, ◌+◌, arith}
use Rattle.tally.specs.Run.{RunResult}
use Rattle.tally.proofs.Exits.{exit}
use Rattle.rehearsal.specs.Rehearsal.{outcome_on}
use Rattle.rehearsal.specs.inner.Rehearses.{end_on}
use Rattle.rehearsal.proofs.Rehearsing.{cut_long, inputs_most, tape_fits, wires_fit_lem, board_fits, board_most, refusal_outcome, winners_outcome, winners_end}
use Rattle.rehearsal.proofs.rehearse.run_list.Goals as goal

pub slice_bounds-run-end : goal.slice_bounds-run-end
slice_bounds-run-end c = let a = c.args in cut_long a.size.conditional a.tape.now (tape_fits _ _ _ _ _ _ _ c.requires)

pub overflow_add-ballot_bytes : goal.overflow_add-ballot_bytes
overflow_add-ballot_bytes c =
    let a = c.args in
    record { fits = omega (arith, c.ballot_bytes.ensures, inputs_most _ _ _ _ _ _ _ c.requires, c.requires.few) }

pub slice_bounds-run-end-2 : goal.slice_bounds-run-end-2
slice_bounds-run-end-2 c = let a = c.args in wires_fit_lem _ _ _ _ _ _ _ c.requires c.ballot_bytes.result c.ballot_bytes.ensures

pub slice_bounds-run-end-3 : goal.slice_bounds-run-end-3
slice_bounds-run-end-3 c =
    let a = c.args in
    cut_long (c.ballot_bytes.result + a.size.gates) a.wires.now (wires_fit_lem _ _ _ _ _ _ _ c.requires c.ballot_bytes.result c.ballot_bytes.ensures)

pub overflow_add-size : goal.overflow_add-size
overflow_add-size c = let a = c.args in record { fits = omega (arith, board_most _ _ _ _ _ _ _ c.requires) }

pub slice_bounds-run-end-4 : goal.slice_bounds-run-end-4
slice_bounds-run-end-4 c = let a = c.args in board_fits _ _ _ _ _ _ _ c.requires

pub slice_bounds-run-end-5 : goal.slice_bounds-run-end-5
slice_bounds-run-end-5 c =
    let a = c.args in cut_long (a.size.conditional + a.shape.candidates) a.board.now (board_fits _ _ _ _ _ _ _ c.requires)

pub returns-in_err-ran : goal.returns-in_err-ran
unfolding outcome_on end_on
returns-in_err-ran c =
    let a = c.args in
    let p = exit c.from_residual.result c.from_residual.ensures in
    rw (p.1, p.2) (record {
      answers = refusal_outcome _ _ _ _ _ _ _ c.requires a.ballots.now c.ballot_bytes.result
          c.ballot_bytes.ensures c.in_err-ran.field-0.0 (ap (λ (z : RunResult). z.answer) c.in_err-ran.ensures);
      on_board = omega arith;
    })

pub returns : goal.returns
unfolding outcome_on end_on
returns c =
    let a = c.args in
    let ran = c.in_ok-ran.ran in
    record {
      answers = winners_outcome _ _ _ _ _ _ _ c.requires a.ballots.now c.ballot_bytes.result
          c.ballot_bytes.ensures ran.gates ran.conditional _ _ (ap (λ (z : RunResult). z.answer) c.in_ok-ran.ensures)
          (ap (λ (z : RunResult). z.board) c.in_ok-ran.ensures);
      on_board = winners_end _ _ _ _ _ _ _ c.requires a.ballots.now c.ballot_bytes.result
          c.ballot_bytes.ensures ran.gates ran.conditional _ _ (ap (λ (z : RunResult). z.answer) c.in_ok-ran.ensures)
          (ap (λ (z : RunResult). z.board) c.in_ok-ran.ensures);
    }

-- `urn_run::run::run_on_urn` meets its contract: if the tests pass, the ballots are loaded, the evaluation fills wire
-- table and board, and the wire table is emptied; otherwise nothing is touched.
-- Assumes nothing.
use mathlib.Core.Path.{◌≡◌, ◌∙◌, sym, ap, subst}
use mathlib.Core.Option.{Option, none, some}
use mathlib.Core.List.{List}
use Prim.Native.Nat.{ℕ}
use lib.ListN.{take, replicate}
use Rattle.gates.specs.Gate.{gates_of}
use Rattle.gates.specs.Wires.{wires_of}
use Rattle.gates.specs.Board.{board_of}
use Rattle.gates.specs.inner.Step.{FinishReady}
use Rattle.jury.specs.Shape.{within_limits}
use Rattle.jury.specs.Reason.{Reason, reason_of, first_of}
use Rattle.basics.proofs.Flags.{true_T}
use Rattle.tally.specs.Answer.{outcome, outcome_of, size_of, size_in}
use Rattle.tally.specs.Run.{run_result_after}
use Rattle.tally.proofs.RunReasons.{same_result, outcome_refused, outcome_accepted}
use Rattle.tally.proofs.Exits.{exit}
use Rattle.urn_run.specs.Run.{urn_run_reasons}
use Rattle.urn_run.proofs.Reasons.{one_T, whole_within, UrnRunPassed, urn_run_passed, ran_on_urn_by, chain_room, finish_ready, loaded_front, loaded_length}
use Rattle.urn_run.proofs.run.run_on_urn.Goals as goal
use Rattle.urn_run.proofs.run.run_on_urn.Goals.{In_ok-size}

pub returns-in_err-size : goal.returns-in_err-size
unfolding outcome_of run_result_after
returns-in_err-size c =
    let a = c.args in
    let o = first_of (urn_run_reasons a.shape a.table.now a.urn.now a.tape.now a.wires.now a.board.now) in
    let r = reason_of c.in_err-size.field-0.0 in
    let p = exit c.from_residual.result c.from_residual.ensures in
    rw (p.1, p.2)
    (sym (ran_on_urn_by a.shape a.table.now a.urn.now a.tape.now a.wires.now a.board.now (some r)
    (outcome_refused o (size_of (gates_of a.table.now)) r (sym c.in_err-size.ensures))))

-- if the tests pass, no reason applies
no_reason : (c : In_ok-size) → let a = c.args in first_of (urn_run_reasons a.shape a.table.now a.urn.now a.tape.now a.wires.now a.board.now) ≡ none
unfolding outcome_of
no_reason c =
    let a = c.args in
    outcome_accepted (first_of (urn_run_reasons a.shape a.table.now a.urn.now a.tape.now a.wires.now a.board.now))
    (size_of (gates_of a.table.now)) (size_in c.in_ok-size.size) (sym c.in_ok-size.ensures)

passed : (c : In_ok-size) → let a = c.args in UrnRunPassed a.shape a.table.now a.urn.now a.tape.now a.wires.now a.board.now
passed c = let a = c.args in urn_run_passed a.shape a.table.now a.urn.now a.tape.now a.wires.now a.board.now (no_reason c)

pub load-requires : goal.load-requires
load-requires c =
    let a = c.args in
    let p = passed (goal.at.load-requires c).In_ok-size in
    record {
      graded = one_T a.shape p.graded;
      is_sound = p.is_sound;
      room = chain_room a.shape a.table.now a.urn.now a.tape.now a.wires.now a.board.now p;
    }

pub ballot_bytes-inputs-requires : goal.ballot_bytes-inputs-requires
ballot_bytes-inputs-requires c = true_T (within_limits c.args.shape)
    (whole_within c.args.shape (passed (goal.at.ballot_bytes-inputs-requires c).In_ok-size).graded)

pub finish-requires : goal.finish-requires
finish-requires c =
    let a = c.args in
    let p = passed (goal.at.finish-requires c).In_ok-size in
    let l = c.load in
    subst (λ (i : ℕ). FinishReady i a.table.now a.shape.candidates a.tape.now l.new.wires a.board.now) (sym c.ballot_bytes-inputs.ensures)
    (finish_ready a.shape a.table.now a.urn.now a.tape.now a.wires.now a.board.now p l.new.wires
    (loaded_length a.shape a.table.now a.urn.now a.tape.now a.wires.now a.board.now p l.new.wires l.ensures))

pub returns : goal.returns
unfolding outcome run_result_after
returns c =
    let a = c.args in
    let l = c.load in
    let n = no_reason (goal.at.returns c).In_ok-size in
    let p = passed (goal.at.returns c).In_ok-size in
    let gs = gates_of a.table.now in
    let same = c.finish.auto.wires ∙ loaded_length a.shape a.table.now a.urn.now a.tape.now a.wires.now a.board.now p l.new.wires l.ensures in
    let front = ap (λ (i : ℕ). take i l.new.wires) c.ballot_bytes-inputs.ensures
    ∙ loaded_front a.shape a.table.now a.urn.now a.tape.now a.wires.now a.board.now p l.new.wires l.ensures in
    same_result
    (c.in_ok-size.ensures ∙ ap (λ (o : Option Reason). outcome o (size_of gs)) n)
    (c.fill.ensures.after (λ y e. e) ∙ ap (λ (n : ℕ). replicate n 0) same)
    (c.finish.ensures.board ∙ ap (λ (xs : List ℕ). board_of (wires_of xs gs) gs a.shape.candidates a.tape.now) front)
    ∙ sym (ran_on_urn_by a.shape a.table.now a.urn.now a.tape.now a.wires.now a.board.now none n)

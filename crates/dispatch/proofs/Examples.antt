-- The calls of `Examples`: each jury's pieces are those of one of tally's example runs.
-- Assumes nothing.
use mathlib.Core.Path.{◌≡◌, ◌∙◌, refl, sym, ap, subst}
use mathlib.Core.Option.{none}
use mathlib.Core.List.{List, [], ◌∷◌, ◌++◌}
use Prim.Native.Nat.{ℕ, zero, suc, ◌≤◌}
use native.Mathlib.Omega.{arith}
use lib.ListN.{length, get_or, replicate, drop}
use Rattle.gates.specs.Gate.{gates_of}
use Rattle.gates.specs.Board.{conditional_count}
use Rattle.gates.specs.HidingExample.{one_gate, one_gate_tested}
use Rattle.gates.proofs.Evaluating.{accepted_list}
use Rattle.jury.specs.Shape.{is_ranking, columns, ballot_bytes}
use Rattle.jury.specs.Reason.{first_of}
use Rattle.tally.specs.Answer.{accepted}
use Rattle.tally.specs.Run.{RunResult, run_reasons, run_result}
use Rattle.tally.specs.Examples.{one_ballot}
use Rattle.tally.proofs.Examples.{pair_of_runs}
use Rattle.tally.proofs.RunReasons.{run_passed}
use Rattle.tally.proofs.Hiding.{ran_accepted, run_answer}
use Rattle.dispatch_rounds.specs.Tables.{Tables, tables_of, header_shape, fitting, piece_of, list_of, conditional_in, pieces_of, remaining, through}
use Rattle.dispatch_rounds.specs.Reasons.{reasons_of, at_jury, jury_reasons}
use Rattle.dispatch_rounds.specs.Rounds.{eight_of, rounds_for}
use Rattle.dispatch.specs.Reasons.{dispatch_reasons}
use Rattle.dispatch.specs.Result.{run_board, zero_wires, DispatchResult, dispatch_result_after, dispatch_result}
use Rattle.dispatch.specs.Examples.{one_header, one_jury, two_juries, PairOfCalls}
use Rattle.dispatch.proofs.Whole.{by_juries, result_by, same_result}

one_conditional : conditional_count (gates_of one_gate) ≡ 1
one_conditional = sym (accepted_list 2 1 one_gate 1 1 one_gate_tested).conditional_are

two_bytes : ballot_bytes (header_shape one_header) ≡ 2
unfolding one_header ballot_bytes is_ranking columns
two_bytes = refl

-- tables that begin with the pieces of the example's first jury
record Front (t : Tables) (ballots tape wires board : List ℕ) : Type 0 where
  pub list : piece_of 4 t.lists ≡ one_gate
  pub ballots_are : piece_of 2 t.ballots ≡ ballots
  pub tape_is : piece_of 1 t.tapes ≡ tape
  pub wires_are : piece_of 3 t.wires ≡ wires
  pub board_is : piece_of 2 t.boards ≡ board

module _ (t : Tables) (ballots tape wires board : List ℕ) (f : Front t ballots tape wires board) where
  marked : conditional_in one_header t ≡ 1
  unfolding conditional_in list_of one_header
  marked = ap (λ (l : List ℕ). conditional_count (gates_of l)) f.list ∙ one_conditional

  in_front : pieces_of one_header t ≡ tables_of one_gate ballots tape wires board
  unfolding pieces_of list_of one_header
  in_front = rw (two_bytes, marked, f.list, f.ballots_are, f.tape_is, f.wires_are, f.board_is)

  then : remaining one_header t ≡ tables_of (drop 4 t.lists) (drop 2 t.ballots) (drop 1 t.tapes) (drop 3 t.wires) (drop 2 t.boards)
  unfolding remaining one_header
  then = rw (two_bytes, marked)

  module _ (ran : (run_result one_ballot one_gate ballots tape wires board).answer ≡ accepted (record { gates = 1; conditional = 1 })) where
    none_applies : first_of (reasons_of one_header t) ≡ none
    unfolding reasons_of one_header one_ballot
    none_applies =
        ap (λ (p : Tables). first_of (run_reasons (header_shape one_header) p.lists p.ballots p.tapes p.wires p.boards)) in_front
        ∙ (ran_accepted one_ballot one_gate ballots wires board tape _ ran).0

    its_board : run_board one_header (pieces_of one_header t) ≡ (run_result one_ballot one_gate ballots tape wires board).board
    unfolding run_board one_header one_ballot
    its_board = ap (λ (p : Tables). (run_result (header_shape one_header) p.lists p.ballots p.tapes p.wires p.boards).board) in_front

    its_zeros : zero_wires one_header (pieces_of one_header t) ≡ replicate (length wires) 0
    its_zeros = ap (λ (p : Tables). replicate (length p.wires) 0) in_front

-- the first call's only jury
first_front : Front one_jury.tables (1 ∷ 0 ∷ []) (0 ∷ []) (9 ∷ 9 ∷ 9 ∷ []) (9 ∷ 9 ∷ [])
unfolding one_jury one_gate piece_of fitting
first_front = record { list = refl; ballots_are = refl; tape_is = refl; wires_are = refl; board_is = refl }

-- the other calls' first jury, and the second one after it
module _ (mask : ℕ) where
  two_front : Front (two_juries mask).tables (1 ∷ 0 ∷ []) (0 ∷ []) (9 ∷ 9 ∷ 9 ∷ []) (9 ∷ 9 ∷ [])
  unfolding two_juries one_gate piece_of fitting
  two_front = record { list = refl; ballots_are = refl; tape_is = refl; wires_are = refl; board_is = refl }

  abbrev second : Tables
  second = remaining one_header (two_juries mask).tables

  second_is : second ≡ tables_of one_gate (0 ∷ 1 ∷ []) (mask ∷ []) (7 ∷ 7 ∷ 7 ∷ []) (7 ∷ 7 ∷ [])
  unfolding two_juries one_gate
  second_is = then (two_juries mask).tables _ _ _ _ two_front

  second_front : Front second (0 ∷ 1 ∷ []) (mask ∷ []) (7 ∷ 7 ∷ 7 ∷ []) (7 ∷ 7 ∷ [])
  second_front =
      subst (λ (t : Tables). Front t (0 ∷ 1 ∷ []) (mask ∷ []) (7 ∷ 7 ∷ 7 ∷ []) (7 ∷ 7 ∷ [])) (sym second_is)
      (unfold one_gate piece_of fitting in (record { list = refl; ballots_are = refl; tape_is = refl; wires_are = refl; board_is = refl }))

better_ran : (run_result one_ballot one_gate (1 ∷ 0 ∷ []) (0 ∷ []) (9 ∷ 9 ∷ 9 ∷ []) (9 ∷ 9 ∷ [])).answer
    ≡ accepted (record { gates = 1; conditional = 1 })
better_ran = ap (λ (r : RunResult). r.answer) pair_of_runs.first_run

better_board : (run_result one_ballot one_gate (1 ∷ 0 ∷ []) (0 ∷ []) (9 ∷ 9 ∷ 9 ∷ []) (9 ∷ 9 ∷ [])).board ≡ 1 ∷ 0 ∷ []
better_board = ap (λ (r : RunResult). r.board) pair_of_runs.first_run

first_left : remaining one_header one_jury.tables ≡ tables_of [] [] [] (9 ∷ []) (9 ∷ [])
unfolding one_jury one_gate
first_left = then one_jury.tables _ _ _ _ first_front

first_juries : first_of (jury_reasons 0 (one_header ∷ []) one_jury.tables) ≡ none
unfolding jury_reasons at_jury first_of
first_juries = rw (none_applies one_jury.tables _ _ _ _ first_front better_ran)

first_passes : first_of (dispatch_reasons one_jury) ≡ none
first_passes = unfold one_jury in (by_juries one_jury refl refl ∙ first_juries)

first_call : dispatch_result one_jury
    ≡ record {
      reason = none;
      rounds = 1 ∷ 0 ∷ 0 ∷ 0 ∷ 0 ∷ 0 ∷ 0 ∷ 0 ∷ [];
      wires = 0 ∷ 0 ∷ 0 ∷ 9 ∷ [];
      boards =
          1 ∷ 0 ∷ 9 ∷ [];
    }
first_call =
    let end : DispatchResult = record {
      reason = none;
      rounds = 1 ∷ 0 ∷ 0 ∷ 0 ∷ 0 ∷ 0 ∷ 0 ∷ 0 ∷ [];
      wires =
          0 ∷ 0 ∷ 0 ∷ 9 ∷ [];
      boards = 1 ∷ 0 ∷ 9 ∷ [];
    } in
    result_by one_jury none first_passes
    ∙ same_result (dispatch_result_after none one_jury) end (unfold dispatch_result_after in refl)
    (unfold dispatch_result_after one_jury eight_of through rounds_for one_header in refl)
    (unfold dispatch_result_after through one_jury in wires) (unfold dispatch_result_after through one_jury in boards)
  where
    wires : zero_wires one_header (pieces_of one_header one_jury.tables) ++ (remaining one_header one_jury.tables).wires ≡ 0 ∷ 0 ∷ 0 ∷ 9 ∷ []
    wires =
        ap (λ (z : List ℕ). z ++ (remaining one_header one_jury.tables).wires) (its_zeros one_jury.tables _ _ _ _ first_front better_ran)
        ∙ ap (λ (u : Tables). 0 ∷ 0 ∷ 0 ∷ u.wires) first_left

    boards : run_board one_header (pieces_of one_header one_jury.tables) ++ (remaining one_header one_jury.tables).boards ≡ 1 ∷ 0 ∷ 9 ∷ []
    boards =
        ap (λ (z : List ℕ). z ++ (remaining one_header one_jury.tables).boards)
        (its_board one_jury.tables _ _ _ _ first_front better_ran ∙ better_board)
        ∙ ap (λ (u : Tables). 1 ∷ 0 ∷ u.boards) first_left

-- the call with two juries, given what the run of the second one leaves
module _ (mask : ℕ) (board : List ℕ)
    (second_ran : (run_result one_ballot one_gate (0 ∷ 1 ∷ []) (mask ∷ []) (7 ∷ 7 ∷ 7 ∷ []) (7 ∷ 7 ∷ [])).answer
    ≡ accepted (record { gates = 1; conditional = 1 }))
    (second_board : (run_result one_ballot one_gate (0 ∷ 1 ∷ []) (mask ∷ []) (7 ∷ 7 ∷ 7 ∷ []) (7 ∷ 7 ∷ [])).board ≡ board) where
  left_over : remaining one_header (second mask) ≡ tables_of [] [] [] [] []
  unfolding one_gate
  left_over =
      then (second mask) _ _ _ _ (second_front mask)
      ∙ ap (λ (u : Tables). tables_of (drop 4 u.lists) (drop 2 u.ballots) (drop 1 u.tapes) (drop 3 u.wires)
      (drop 2 u.boards)) (second_is mask)

  both_juries : first_of (jury_reasons 0 (one_header ∷ one_header ∷ []) (two_juries mask).tables) ≡ none
  unfolding jury_reasons at_jury first_of
  both_juries = rw (
    none_applies (two_juries mask).tables _ _ _ _ (two_front mask) better_ran,
    none_applies (second mask) _ _ _ _ (second_front mask) second_ran,
  )

  both_pass : first_of (dispatch_reasons (two_juries mask)) ≡ none
  both_pass = unfold two_juries in (by_juries (two_juries mask) refl refl ∙ both_juries)

  two_call : dispatch_result (two_juries mask)
      ≡ record {
        reason = none;
        rounds = 1 ∷ 1 ∷ 0 ∷ 0 ∷ 0 ∷ 0 ∷ 0 ∷ 0 ∷ [];
        wires = 0 ∷ 0 ∷ 0 ∷ 0 ∷ 0 ∷ 0 ∷ [];
        boards = 1 ∷ 0 ∷ (board ++ []);
      }
  two_call =
      let end : DispatchResult = record {
        reason = none;
        rounds = 1 ∷ 1 ∷ 0 ∷ 0 ∷ 0 ∷ 0 ∷ 0 ∷ 0 ∷ [];
        wires =
            0 ∷ 0 ∷ 0 ∷ 0 ∷ 0 ∷ 0 ∷ [];
        boards = 1 ∷ 0 ∷ (board ++ []);
      } in
      result_by (two_juries mask) none both_pass
      ∙ same_result (dispatch_result_after none (two_juries mask)) end (unfold dispatch_result_after in refl)
      (unfold dispatch_result_after two_juries eight_of through rounds_for one_header in refl)
      (unfold dispatch_result_after through two_juries in wires) (unfold dispatch_result_after through two_juries in boards)
    where
      wires : zero_wires one_header (pieces_of one_header (two_juries mask).tables)
          ++ (zero_wires one_header (pieces_of one_header (second mask)) ++ (remaining one_header (second mask)).wires)
          ≡ 0 ∷ 0 ∷ 0 ∷ 0 ∷ 0 ∷ 0 ∷ []
      wires =
          ap (λ (z : List ℕ). z ++ (zero_wires one_header (pieces_of one_header (second mask))
          ++ (remaining one_header (second mask)).wires))
          (its_zeros (two_juries mask).tables _ _ _ _ (two_front mask) better_ran)
          ∙ ap (λ (z : List ℕ). 0 ∷ 0 ∷ 0 ∷ (z ++ (remaining one_header (second mask)).wires))
          (its_zeros (second mask) _ _ _ _ (second_front mask) second_ran)
          ∙ ap (λ (u : Tables). 0 ∷ 0 ∷ 0 ∷ 0 ∷ 0 ∷ 0 ∷ u.wires) left_over

      boards : run_board one_header (pieces_of one_header (two_juries mask).tables)
          ++ (run_board one_header (pieces_of one_header (second mask)) ++ (remaining one_header (second mask)).boards)
          ≡ 1 ∷ 0 ∷ (board ++ [])
      boards =
          ap (λ (z : List ℕ). z ++ (run_board one_header (pieces_of one_header (second mask))
          ++ (remaining one_header (second mask)).boards))
          (its_board (two_juries mask).tables _ _ _ _ (two_front mask) better_ran ∙ better_board)
          ∙ ap (λ (z : List ℕ). 1 ∷ 0 ∷ (z ++ (remaining one_header (second mask)).boards))
          (its_board (second mask) _ _ _ _ (second_front mask) second_ran ∙ second_board)
          ∙ ap (λ (u : Tables). 1 ∷ 0 ∷ (board ++ u.boards)) left_over

-- the worse grade under both masks
worse_ran : (run_result one_ballot one_gate (0 ∷ 1 ∷ []) (1 ∷ []) (7 ∷ 7 ∷ 7 ∷ []) (7 ∷ 7 ∷ [])).answer
    ≡ accepted (record { gates = 1; conditional = 1 })
worse_ran = ap (λ (r : RunResult). r.answer) pair_of_runs.second_run

other_ran : (run_result one_ballot one_gate (0 ∷ 1 ∷ []) (0 ∷ []) (7 ∷ 7 ∷ 7 ∷ []) (7 ∷ 7 ∷ [])).answer
    ≡ accepted (record { gates = 1; conditional = 1 })
other_ran =
    let a = ran_accepted one_ballot one_gate (0 ∷ 1 ∷ []) (7 ∷ 7 ∷ 7 ∷ []) (7 ∷ 7 ∷ []) (1 ∷ []) _ worse_ran in
    run_answer one_ballot one_gate (0 ∷ 1 ∷ []) (7 ∷ 7 ∷ 7 ∷ []) (7 ∷ 7 ∷ []) (1 ∷ [])
    (run_passed one_ballot one_gate (0 ∷ 1 ∷ []) (1 ∷ []) (7 ∷ 7 ∷ 7 ∷ []) (7 ∷ 7 ∷ []) a.0) (0 ∷ [])
    (record { size = sym one_conditional; bits = bit })
    ∙ ap accepted (sym a.1)
  where
    bit : (i : ℕ) → get_or (0 ∷ []) i 0 ≤ 1
    bit zero = omega arith
    bit (suc i) = omega arith

pub pair_of_calls : PairOfCalls
pair_of_calls =
    record {
      first_call = first_call;
      second_call = two_call 1 (1 ∷ 0 ∷ []) worse_ran (ap (λ (r : RunResult). r.board) pair_of_runs.second_run);
      other_tape = ap (λ (r : DispatchResult). r.boards) (two_call 0 (0 ∷ 0 ∷ []) other_ran pair_of_runs.other_tape);
    }

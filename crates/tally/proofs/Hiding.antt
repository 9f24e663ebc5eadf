-- Demand 3 for the runs of a jury, from the gate layer's laws of boards.
-- Assumes nothing.
use mathlib.Core.Path.{◌≡◌, ◌∙◌, refl, sym, ap, subst}
use mathlib.Core.Option.{Option, none, some}
use mathlib.Core.List.{List}
use Prim.Native.Nat.{ℕ, ◌-◌, ◌≤◌}
use native.Mathlib.Omega.{arith}
use lib.ListN.{length, drop, replicate}
use Rattle.gates.specs.Gate.{gates_of}
use Rattle.gates.specs.Wires.{wires_of, outputs_of}
use Rattle.gates.specs.Board.{conditional_count, MaskTape, board_of}
use Rattle.gates.specs.Hiding.{Finished}
use Rattle.gates.proofs.WireLaws.{length_wires}
use Rattle.gates.proofs.Evaluating.{accepted_list}
use Rattle.gates.proofs.Hiding.{board_finished, one_tape}
use Rattle.jury.specs.declared.shape.Shape.{Shape}
use Rattle.jury.specs.Shape.{ballot_bytes}
use Rattle.jury.specs.Reason.{Reason, first_of}
use Rattle.tally.specs.Answer.{accepted, Size, size_of}
use Rattle.tally.specs.Run.{RunResult, run_reasons, run_result_after, run_result}
use Rattle.tally.specs.Hiding.{closing_bytes, RunTellsNoMore}
use Rattle.tally.proofs.TestReasons.{never}
use Rattle.tally.proofs.RunReasons.{RunPassed, run_passed, run_passed_back, ran_by}

module _ (s : Shape) (table ballots wires board : List ℕ) where
  -- if a run answers G and C, no reason applies, and both numbers are the list's
  answered : (t : List ℕ) (size : Size) (o : Option Reason) → first_of (run_reasons s table ballots t wires board) ≡ o
      → (run_result_after o s (gates_of table) ballots t wires board).answer ≡ accepted size
      → (first_of (run_reasons s table ballots t wires board) ≡ none) × (size ≡ size_of (gates_of table))
  unfolding run_result_after
  answered t size none e f = (e, cc)
  answered t size (some r) e f = never size r f

  pub ran_accepted : (t : List ℕ) (size : Size) → (run_result s table ballots t wires board).answer ≡ accepted size
      → (first_of (run_reasons s table ballots t wires board) ≡ none) × (size ≡ size_of (gates_of table))
  ran_accepted t size e =
      let o = first_of (run_reasons s table ballots t wires board) in
      answered t size o refl (sym (ap (λ (r : RunResult). r.answer) (ran_by s table ballots t wires board o refl)) ∙ e)

  module _ (t : List ℕ) (passed : RunPassed s table ballots t wires board) (u : List ℕ) (mask : MaskTape (gates_of table) u) where
    -- another mask tape is accepted too
    pub other_tape : RunPassed s table ballots u wires board
    other_tape =
        record {
          test = passed.test;
          ballots_passed = passed.ballots_passed;
          mask = mask;
          wires_length = passed.wires_length;
          board_length = passed.board_length;
        }

    outcome : run_result s table ballots u wires board ≡ run_result_after none s (gates_of table) ballots u wires board
    outcome = ran_by s table ballots u wires board none (run_passed_back s table ballots u wires board other_tape)

    pub run_answer : (run_result s table ballots u wires board).answer ≡ accepted (size_of (gates_of table))
    unfolding run_result_after
    run_answer = ap (λ (r : RunResult). r.answer) outcome

    pub run_wires : (run_result s table ballots u wires board).wires ≡ replicate (length wires) 0
    unfolding run_result_after
    run_wires = ap (λ (r : RunResult). r.wires) outcome

    pub run_board_lem : (run_result s table ballots u wires board).board
        ≡ board_of (wires_of ballots (gates_of table)) (gates_of table) s.candidates u
    unfolding run_result_after
    run_board_lem = ap (λ (r : RunResult). r.board) outcome

    -- the board does not depend on the old contents of the wire table and the board
    pub same_buffers : (wires' board' : List ℕ) → length wires' ≡ length wires → length board' ≡ length board
        → (run_result s table ballots u wires' board').board ≡ board_of (wires_of ballots (gates_of table)) (gates_of table) s.candidates u
    unfolding run_result_after
    same_buffers wires' board' w b =
        let other : RunPassed s table ballots u wires' board' = record {
          test = passed.test;
          ballots_passed = passed.ballots_passed;
          mask = mask;
          wires_length = w ∙ passed.wires_length;
          board_length = b ∙ passed.board_length;
        } in
        ap (λ (r : RunResult). r.board)
        (ran_by s table ballots u wires' board' none (run_passed_back s table ballots u wires' board' other))

    enough : s.candidates ≤ length (wires_of ballots (gates_of table))
    enough =
        let size = size_of (gates_of table) in
        let f = accepted_list (ballot_bytes s) s.candidates table size.gates size.conditional passed.test.tests in
        omega (arith, f.enough, length_wires ballots (gates_of table))

    pub run_finished : Finished (wires_of ballots (gates_of table)) (gates_of table) s.candidates u
        (run_result s table ballots u wires board).board
    run_finished =
        subst (Finished (wires_of ballots (gates_of table)) (gates_of table) s.candidates u) (sym run_board_lem)
        (board_finished (wires_of ballots (gates_of table)) (gates_of table) s.candidates u enough mask.size)

    -- the closing bytes are the last wires
    pub run_closing : closing_bytes s (run_result s table ballots u wires board).board
        ≡ outputs_of s.candidates (wires_of ballots (gates_of table))
    unfolding closing_bytes
    run_closing =
        let b = (run_result s table ballots u wires board).board in
        let n : length b - s.candidates ≡ conditional_count (gates_of table) = omega (arith, run_finished.size) in
        ap (λ (m : ℕ). drop m b) n ∙ run_finished.closing

pub board_tells_no_more : RunTellsNoMore
board_tells_no_more s table xs ys t u vs ws bs ds first second e f closing =
    let gs = gates_of table in
    let a = ran_accepted s table xs vs bs t first e in
    let b = ran_accepted s table ys ws ds u second f in
    let p = run_passed s table xs t vs bs a.0 in
    let q = run_passed s table ys u ws ds b.0 in
    let o : outputs_of s.candidates (wires_of xs gs) ≡ outputs_of s.candidates (wires_of ys gs) =
    sym (run_closing s table xs vs bs t p t p.mask) ∙ closing ∙ run_closing s table ys ws ds u q u q.mask in (
      a.1,
      b.1,
      record {
        first_answer = run_answer s table xs vs bs t p;
        first_board = run_finished s table xs vs bs t p;
        second_answer = run_answer s table ys ws ds u q;
        second_board = run_finished s table ys ws ds u q;
        same_board = λ (v : List ℕ) m.
            let one = one_tape (wires_of xs gs) (wires_of ys gs) gs s.candidates o v m in
            let first_is = run_board_lem s table xs vs bs t p v m in (
              one.0,
              (one.1.0, first_is ∙ one.1.1 ∙ sym (run_board_lem s table ys ws ds u q one.0 one.1.0)),
              λ (w : List ℕ) r. one.2 w (r.0, sym first_is ∙ r.1 ∙ run_board_lem s table ys ws ds u q w r.0),
            );
        any_buffers = λ v w vs' ws' bs' ds' m n ev ew eb ed same.
            same_buffers s table xs vs bs t p v m vs' bs' ev eb
            ∙ sym (run_board_lem s table xs vs bs t p v m) ∙ same ∙ run_board_lem s table ys ws ds u q w n
            ∙ sym (same_buffers s table ys ws ds u q w n ws' ds' ew ed);
      },
    )

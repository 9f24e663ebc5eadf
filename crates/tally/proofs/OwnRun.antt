-- A run of the own list with a mask tape and buffers of the right lengths is refused only because of the ballots,
-- and its closing bytes are the rule's.
-- Assumes nothing.
use mathlib.Core.Path.{◌≡◌, ◌∙◌, refl, sym, ap}
use mathlib.Core.Bool.{true}
use mathlib.Core.Option.{Option, none, some}
use mathlib.Core.List.{List}
use Prim.Native.Nat.{ℕ, ◌+◌}
use native.Mathlib.Omega.{arith}
use lib.ListN.{length, drop}
use Rattle.gates.specs.Gate.{Gate, gates_of, numbers_of}
use Rattle.gates.specs.Wires.{wires_of, outputs_of}
use Rattle.gates.specs.Board.{conditional_count, MaskTape}
use Rattle.gates.proofs.Laws.{read_whole}
use Rattle.gates.proofs.Hiding.{none_above}
use Rattle.jury.specs.declared.shape.Shape.{Shape}
use Rattle.jury.specs.Shape.{within_limits, ballot_bytes}
use Rattle.jury.specs.Reason.{Reason, first_of}
use Rattle.jury.specs.Ballots.{ballot_reasons}
use Rattle.tally.specs.Rule.{closing_for}
use Rattle.tally.specs.OwnList.{own_list}
use Rattle.tally.specs.Answer.{accepted, outcome, size_of}
use Rattle.tally.specs.Test.{test_reasons}
use Rattle.tally.specs.Run.{RunResult, buffer_reasons, run_reasons, run_result_after, run_result}
use Rattle.tally.proofs.TestReasons.{or_else, TestPassed, test_passed}
use Rattle.tally.proofs.RunReasons.{lent_passed_back, first_of_three, run_first, run_passed, ran_by}
use Rattle.tally.proofs.Hiding.{run_finished}
use Rattle.tally.proofs.OwnList.{own_list_holds}

middle_alone : (a b c : Option Reason) → a ≡ none → c ≡ none → first_of_three a b c ≡ b
unfolding first_of_three or_else
middle_alone none none none e f = refl
middle_alone none (some r) none e f = refl
middle_alone none none (some q) e f = f
middle_alone none (some r) (some q) e f = refl
middle_alone (some q) none none e f = e
middle_alone (some q) none (some p) e f = e
middle_alone (some q) (some r) c e f = let z : ◌≡◌ {A = ℕ} 0 1 = cc in absurd (omega arith)

module _ (s : Shape) (w : within_limits s ≡ true) (ballots tape wires board : List ℕ) (mask : MaskTape (own_list s) tape)
    (wl : length wires ≡ ballot_bytes s + length (own_list s)) (bl : length board ≡ conditional_count (own_list s) + s.candidates) where
  list : List ℕ
  list = numbers_of (own_list s)

  gates : gates_of list ≡ own_list s
  unfolding list
  gates = read_whole (own_list s)

  test : TestPassed s list (size_of (gates_of list))
  unfolding list
  test = test_passed s list (size_of (gates_of list)) ((own_list_holds s w).passes ∙ ap (λ (gs : List Gate). accepted (size_of gs)) (sym gates))

  lent : first_of (buffer_reasons (ballot_bytes s) s.candidates (size_of (gates_of list)) tape wires board) ≡ none
  unfolding size_of
  lent =
      lent_passed_back (ballot_bytes s) s.candidates (size_of (gates_of list)) tape wires board
      (record {
        tape_length = mask.size ∙ ap conditional_count (sym gates);
        tape_bits = none_above 0 tape mask.bits;
        wires_length = wl ∙ ap (λ (gs : List Gate). ballot_bytes s + length gs) (sym gates);
        board_length = bl ∙ ap (λ (gs : List Gate). conditional_count gs + s.candidates) (sym gates);
      })

  reason : first_of (run_reasons s list ballots tape wires board) ≡ first_of (ballot_reasons s ballots)
  reason =
      run_first s list ballots tape wires board
      ∙ middle_alone (first_of (test_reasons s list)) (first_of (ballot_reasons s ballots))
      (first_of (buffer_reasons (ballot_bytes s) s.candidates (size_of (gates_of list)) tape wires board))
      test.reasons lent

  answer_of : (o : Option Reason) → (run_result_after o s (gates_of list) ballots tape wires board).answer ≡ outcome o (size_of (gates_of list))
  unfolding run_result_after outcome
  answer_of none = refl
  answer_of (some r) = refl

  pub own_answer : (run_result s (numbers_of (own_list s)) ballots tape wires board).answer
      ≡ outcome (first_of (ballot_reasons s ballots)) (size_of (own_list s))
  unfolding list
  own_answer =
      let o = first_of (ballot_reasons s ballots) in
      ap (λ (r : RunResult). r.answer) (ran_by s list ballots tape wires board o reason) ∙ answer_of o
      ∙ ap (λ (gs : List Gate). outcome o (size_of gs)) gates

  -- if the ballots pass, the board has the closing bytes after the shown bits
  pub own_closing : first_of (ballot_reasons s ballots) ≡ none
      → (length (run_result s (numbers_of (own_list s)) ballots tape wires board).board ≡ conditional_count (own_list s) + s.candidates)
      × (drop (conditional_count (own_list s)) (run_result s (numbers_of (own_list s)) ballots tape wires board).board ≡ closing_for s ballots)
  unfolding list
  own_closing e =
      let p = run_passed s list ballots tape wires board (reason ∙ e) in
      let f = run_finished s list ballots wires board tape p tape p.mask in
      let b = (run_result s list ballots tape wires board).board in (
        f.size ∙ ap (λ (gs : List Gate). conditional_count gs + s.candidates) gates,
        ap (λ (gs : List Gate). drop (conditional_count gs) b) (sym gates) ∙ f.closing
            ∙ ap (λ (gs : List Gate). outputs_of s.candidates (wires_of ballots gs)) gates
            ∙ (own_list_holds s w).closing ballots p.ballots_passed,
      )

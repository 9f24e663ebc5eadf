-- The three demands hold.
-- Assumes nothing.
use mathlib.Core.Path.{◌≡◌, ◌∙◌, refl, sym, ap, subst}
use mathlib.Core.Option.{Option, none, some}
use mathlib.Core.List.{List, [], ◌++◌}
use Prim.Native.Nat.{ℕ, ◌+◌, ◌≤◌}
use native.Mathlib.Omega.{arith}
use lib.Dec.{T, leb, leb→le}
use lib.ListN.{length, take, length-replicate}
use Rattle.basics.specs.Lists.{all, member}
use Rattle.gates.specs.Gate.{Gate, gates_of}
use Rattle.gates.specs.Wires.{wires_of, outputs_of}
use Rattle.gates.specs.Board.{MaskTape}
use Rattle.jury.specs.declared.shape.Shape.{Shape}
use Rattle.jury.specs.Shape.{ballot_bytes}
use Rattle.jury.specs.Reason.{Reason, reason_at, first_of}
use Rattle.jury.specs.Ballots.{ballot_reasons, ballot_reason_numbers}
use Rattle.jury.specs.Accepted.{AcceptedBallots}
use Rattle.tally.specs.Answer.{Outcome, refused, accepted, has_number_in, Size, size_of}
use Rattle.tally.specs.Rule.{closing_for}
use Rattle.tally.specs.SaysWhoWins.{SaysWhoWins}
use Rattle.tally.specs.Memory.{Each, KeepsMemory, BoardKeepsMemory}
use Rattle.tally.specs.OwnList.{own_list}
use Rattle.tally.specs.Count.{count_reason, count_reason_numbers, plain_closing, count_outcome}
use Rattle.tally.specs.Test.{test_reasons, test_outcome}
use Rattle.tally.specs.Write.{write_reasons, write_outcome}
use Rattle.tally.specs.Run.{RunResult, buffer_reasons, buffer_reason_numbers, run_reasons, run_result_after, run_result, run_reason_numbers}
use Rattle.tally.specs.Hiding.{closing_bytes}
use Rattle.tally.specs.Demands.{TallyMemory, list_in, RunAccuracy, CountAccuracy, ThreeDemands}
use Rattle.tally.proofs.Rules.{rule_says}
use Rattle.tally.proofs.PlainFacts.{plain_first, plain_length, plain_says}
use Rattle.tally.proofs.CountReason.{count_accepts}
use Rattle.tally.proofs.TestReasons.{never, or_else, TestPassed, test_passed}
use Rattle.tally.proofs.RunReasons.{first_of_three, run_first, outcome_refused, RunPassed, run_passed, ran_by}
use Rattle.tally.proofs.Hiding.{ran_accepted, run_answer, run_wires, run_finished, run_closing, board_tells_no_more}
use Rattle.tally.proofs.Numbering.{Fine, first_fine, number_passes, wider, ballots_all, buffers_all, measure_number, write_number, test_number, count_number, run_number}
use Rattle.tally.proofs.OwnList.{own_list_holds}
use Rattle.tally.proofs.Writing as writing

-- a run that is refused answers its first reason, and does not change the wire table and the board
module _ (s : Shape) (table ballots tape wires board : List ℕ) where
  after_refusal : (o : Option Reason) (r : Reason) → (run_result_after o s (gates_of table) ballots tape wires board).answer ≡ refused r
      → (o ≡ some r) × ((run_result_after o s (gates_of table) ballots tape wires board).wires ≡ wires)
      × ((run_result_after o s (gates_of table) ballots tape wires board).board ≡ board)
  unfolding run_result_after
  after_refusal none r e = never (size_of (gates_of table)) r (sym e)
  after_refusal (some q) r e = let same : q ≡ r = cc in (ap some same, refl, refl)

  whole : run_result s table ballots tape wires board
      ≡ run_result_after (first_of (run_reasons s table ballots tape wires board)) s (gates_of table) ballots tape wires
      board
  whole = ran_by s table ballots tape wires board (first_of (run_reasons s table ballots tape wires board)) refl

  ran_refused : (r : Reason) → (run_result s table ballots tape wires board).answer ≡ refused r
      → (first_of (run_reasons s table ballots tape wires board) ≡ some r)
      × ((run_result s table ballots tape wires board).wires ≡ wires)
      × ((run_result s table ballots tape wires board).board ≡ board)
  ran_refused r e =
      let o = first_of (run_reasons s table ballots tape wires board) in
      let q = after_refusal o r (sym (ap (λ (z : RunResult). z.answer) whole) ∙ e) in
      (q.0, ap (λ (z : RunResult). z.wires) whole ∙ q.1, ap (λ (z : RunResult). z.board) whole ∙ q.2)

  -- no run changes a length
  lengths : (o : Option Reason) → first_of (run_reasons s table ballots tape wires board) ≡ o
      → (length (run_result s table ballots tape wires board).wires ≡ length wires)
      × (length (run_result s table ballots tape wires board).board ≡ length board)
  unfolding run_result_after
  lengths (some r) e =
      let f = ran_by s table ballots tape wires board (some r) e in
      (ap (λ (z : RunResult). length z.wires) f, ap (λ (z : RunResult). length z.board) f)
  lengths none e =
      let p = run_passed s table ballots tape wires board e in
      let f = run_finished s table ballots wires board tape p tape p.mask in (
        ap length (run_wires s table ballots wires board tape p tape p.mask) ∙ length-replicate (length wires) 0,
        omega (arith, f.size, p.board_length),
      )

pub run_lengths : (s : Shape) (table ballots tape wires board : List ℕ)
    → (length (run_result s table ballots tape wires board).wires ≡ length wires)
    × (length (run_result s table ballots tape wires board).board ≡ length board)
run_lengths s table ballots tape wires board =
    lengths s table ballots tape wires board (first_of (run_reasons s table ballots tape wires board)) refl

-- if the list passes its test, the first reason is one of the ballots or of the buffers
late_numbers : List ℕ
late_numbers = ballot_reason_numbers ++ buffer_reason_numbers

late : (a b c : Option Reason) (r : Reason) → a ≡ none → Fine late_numbers b → Fine late_numbers c
    → first_of_three a b c ≡ some r → T (has_number_in late_numbers r)
unfolding first_of_three or_else Fine
late none none c r p f g e = subst (Fine late_numbers) e g
late none (some q) c r p f g e = subst (Fine late_numbers) e f
late (some q) b c r p f g e = let z : ◌≡◌ {A = ℕ} 0 1 = cc in absurd (omega arith)

module _ (s : Shape) (table : List ℕ) (size : Size) (p : writing.WritePassed s table size) where
  list : List ℕ
  list = list_in s size table

  gates : gates_of list ≡ own_list s
  unfolding list
  gates = writing.gates_in s table size p

  own_size : size_of (gates_of list) ≡ size
  own_size = ap size_of gates ∙ sym p.own_size

  test : TestPassed s list (size_of (gates_of list))
  unfolding list
  test =
      test_passed s list (size_of (gates_of list))
      (ap (test_outcome s) (writing.list_in_lem s table size p) ∙ (own_list_holds s p.within).passes ∙ ap accepted (ap size_of (sym gates)))

  number : (ballots tape wires board : List ℕ) (r : Reason) → (run_result s list ballots tape wires board).answer ≡ refused r → 4 ≤ r.number
  unfolding late_numbers all member reason_at
  number ballots tape wires board r e =
      let lent = buffer_reasons (ballot_bytes s) s.candidates (size_of (gates_of list)) tape wires board in
      leb→le 4 r.number (number_passes (leb 4) late_numbers r tt
      (late (first_of (test_reasons s list)) (first_of (ballot_reasons s ballots)) (first_of lent) r test.reasons
      (first_fine late_numbers (ballot_reasons s ballots) (wider ballot_reason_numbers late_numbers tt (ballot_reasons s ballots) (ballots_all s ballots)))
      (first_fine late_numbers lent
      (wider buffer_reason_numbers late_numbers tt lent (buffers_all (ballot_bytes s) s.candidates (size_of (gates_of list)) tape wires board)))
      (sym (run_first s list ballots tape wires board) ∙ (ran_refused s list ballots tape wires board r e).0)))

  accepts : (ballots tape wires board : List ℕ) → AcceptedBallots s ballots → MaskTape (gates_of list) tape
      → length wires ≡ ballot_bytes s + size.gates → length board ≡ size.conditional + s.candidates
      → (run_result s list ballots tape wires board).answer ≡ accepted size
  unfolding size_of
  accepts ballots tape wires board a m w b =
      let q : RunPassed s list ballots tape wires board = record {
        test = test;
        ballots_passed = a;
        mask = m;
        wires_length = w ∙ ap (λ (z : Size). ballot_bytes s + z.gates) (sym own_size);
        board_length = b ∙ ap (λ (z : Size). z.conditional + s.candidates) (sym own_size);
      } in
      run_answer s list ballots wires board tape q tape m ∙ ap accepted own_size

  module _ (ballots tape wires board : List ℕ) (answer : Size)
      (e : (run_result s list ballots tape wires board).answer ≡ accepted answer) where
    passed : RunPassed s list ballots tape wires board
    passed = run_passed s list ballots tape wires board (ran_accepted s list ballots wires board tape answer e).0

    closing : closing_bytes s (run_result s list ballots tape wires board).board ≡ closing_for s ballots
    closing =
        run_closing s list ballots wires board tape passed tape passed.mask
        ∙ ap (λ (gs : List Gate). outputs_of s.candidates (wires_of ballots gs)) gates
        ∙ (own_list_holds s p.within).closing ballots passed.ballots_passed

    plain : closing_bytes s (run_result s list ballots tape wires board).board ≡ take s.candidates (plain_closing s ballots)
    plain = closing ∙ sym (plain_first s ballots passed.ballots_passed)

    says : SaysWhoWins s ballots (closing_bytes s (run_result s list ballots tape wires board).board)
    says = subst (SaysWhoWins s ballots) (sym closing) (rule_says s ballots passed.ballots_passed)

-- a call that is lent nothing to write to changes nothing
nothing_lent : {Values : Type 0} {numbers : List ℕ} {answer : Outcome Values}
    → ((r : Reason) → answer ≡ refused r → T (has_number_in numbers r)) → KeepsMemory numbers answer [] []
unfolding Each
nothing_lent named = record { number = named; refusal = λ r e. tt; empties = λ values e. tt; lengths = tt }

run_memory : (s : Shape) (table ballots tape wires board : List ℕ)
    → BoardKeepsMemory run_reason_numbers wires board (run_result s table ballots tape wires board)
unfolding Each
run_memory s table ballots tape wires board =
    let long = run_lengths s table ballots tape wires board in
    record {
      number = λ r e. run_number s table ballots tape wires board r (ran_refused s table ballots tape wires board r e).0;
      refusal = λ r e. let q = ran_refused s table ballots tape wires board r e in (q.1, (q.2, tt));
      empties = λ size e.
          let p = run_passed s table ballots tape wires board (ran_accepted s table ballots wires board tape size e).0 in
          (run_wires s table ballots wires board tape p tape p.mask, tt);
      lengths = (long.0, (long.1, tt));
    }

memory : TallyMemory
unfolding Each
memory =
    record {
      measure = λ s. nothing_lent (measure_number s);
      write = λ s table. record {
        number = write_number s table;
        refusal = λ r e. ((writing.write_refused s table r (refused_reason s table r e)).1, tt);
        empties = λ size e. tt;
        lengths = (writing.write_length s table, tt);
      };
      test = λ s table. nothing_lent (test_number s table);
      run = run_memory;
      count = λ s ballots. nothing_lent (count_named s ballots);
    }
  where
    refused_reason : (s : Shape) (table : List ℕ) (r : Reason) → write_outcome s table ≡ refused r → first_of (write_reasons s table) ≡ some r
    refused_reason s table r e = outcome_refused (first_of (write_reasons s table)) (size_of (own_list s)) r (unfold write_outcome in e)

    count_named : (s : Shape) (ballots : List ℕ) (r : Reason) → count_outcome s ballots ≡ refused r
        → T (has_number_in count_reason_numbers r)
    count_named s ballots r e =
        count_number s ballots r (outcome_refused (count_reason s ballots) (plain_closing s ballots) r (unfold count_outcome in e))

accuracy : (s : Shape) (table : List ℕ) (size : Size) → write_outcome s table ≡ accepted size → RunAccuracy s table size
unfolding list
accuracy s table size e =
    let p = writing.write_passed s table size e in
    record {
      never_2_or_3 = λ ballots tape wires board r f. let n = number s table size p ballots tape wires board r f in
          (λ two. omega (arith, two), λ three. omega (arith, three));
      runs = accepts s table size p;
      plain = plain s table size p;
      says_who_wins = says s table size p;
    }

counting : CountAccuracy
counting =
    record {
      accepts = count_accepts;
      says_who_wins = λ s ballots e. plain_says s ballots ((count_accepts s ballots).0 e);
      eight_bytes = plain_length;
    }

pub three_demands : ThreeDemands
three_demands = record { memory = memory; accuracy = accuracy; counting = counting; hiding = board_tells_no_more }

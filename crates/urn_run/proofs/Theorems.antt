-- A run on an urn is the run on its chain's ballots, and the three demands hold for it.
-- Assumes nothing.
use mathlib.Core.Path.{◌≡◌, ◌∙◌, refl, sym, ap, subst}
use mathlib.Core.Logic.{◌≢◌}
use mathlib.Core.Bool.{Bool, true, false}
use mathlib.Core.Option.{Option, none, some}
use mathlib.Core.List.{List}
use Prim.Native.Nat.{ℕ}
use native.Mathlib.Omega.{arith}
use lib.ListN.{length, replicate}
use Rattle.basics.specs.Lists.{all, member}
use Rattle.gates.specs.Gate.{gates_of}
use Rattle.gates.specs.Wires.{wires_of}
use Rattle.gates.specs.Hiding.{Finished}
use Rattle.jury.specs.declared.shape.Shape.{Shape}
use Rattle.jury.specs.Shape.{graded_limits, ballot_bytes}
use Rattle.jury.specs.Reason.{Reason, reason_at, first_of}
use Rattle.tally.specs.Answer.{Outcome, refused, accepted, Size, size_of}
use Rattle.tally.specs.Run.{RunResult, buffer_reasons, buffer_reason_numbers, run_result_after, run_result}
use Rattle.tally.specs.SaysWhoWins.{SaysWhoWins}
use Rattle.tally.specs.Memory.{Each}
use Rattle.tally.specs.Hiding.{closing_bytes, BoardsHide, RunsHide}
use Rattle.tally.specs.Demands.{list_in, RunAccuracy}
use Rattle.tally.proofs.TestReasons.{never, test_passed}
use Rattle.tally.proofs.Numbering.{All, first_number, unless_fine, list_fine, wider, buffers_all}
use Rattle.tally.proofs.Hiding.{board_tells_no_more}
use Rattle.tally.proofs.Demands.{run_lengths, three_demands}
use Rattle.urn_chains.specs.Sound.{sound}
use Rattle.urn_run.specs.Run.{urn_run_reasons, urn_run_reason_numbers, urn_run_result}
use Rattle.urn_run.specs.Theorems.{ballots_for, SameAsRun, UrnRunMemory, UrnAccuracy, UrnTellsNoMore, UrnRunHolds}
use Rattle.urn_run.proofs.Reasons.{by_1, by_13, by_4, same_run, ran_on_urn_by, chain_accepted, urn_run_passed, UrnRunPassed}

-- calls that are refused, and calls that are accepted
module _ (s : Shape) (table urn tape wires board : List ℕ) where
  refusal_is : (r : Reason) → first_of (urn_run_reasons s table urn tape wires board) ≡ some r
      → (urn_run_result s table urn tape wires board).answer ≡ refused r
  unfolding run_result_after
  refusal_is r e = ap (λ (z : RunResult). z.answer) (ran_on_urn_by s table urn tape wires board (some r) e)

  -- a refused call changes nothing
  after_refusal : (o : Option Reason) (r : Reason) → first_of (urn_run_reasons s table urn tape wires board) ≡ o
      → (urn_run_result s table urn tape wires board).answer ≡ refused r
      → (o ≡ some r) × ((urn_run_result s table urn tape wires board).wires ≡ wires) × ((urn_run_result s table urn tape wires board).board ≡ board)
  unfolding run_result_after
  after_refusal none r e q = never (size_of (gates_of table)) r
      (sym q ∙ ap (λ (z : RunResult). z.answer) (ran_on_urn_by s table urn tape wires board none e))
  after_refusal (some r') r e q =
      let f = ran_on_urn_by s table urn tape wires board (some r') e in
      let same : r' ≡ r = let g = sym (ap (λ (z : RunResult). z.answer) f) ∙ q in cc in
      (ap some same, ap (λ (z : RunResult). z.wires) f, ap (λ (z : RunResult). z.board) f)

  answered : (o : Option Reason) (size : Size) → first_of (urn_run_reasons s table urn tape wires board) ≡ o
      → (urn_run_result s table urn tape wires board).answer ≡ accepted size
      → first_of (urn_run_reasons s table urn tape wires board) ≡ none
  unfolding run_result_after
  answered none size e q = e
  answered (some r) size e q = never size r
      (sym (ap (λ (z : RunResult). z.answer) (ran_on_urn_by s table urn tape wires board (some r) e)) ∙ q)

  -- an accepted run on an urn has passed its tests
  passed : (size : Size) → (urn_run_result s table urn tape wires board).answer ≡ accepted size → UrnRunPassed s table urn tape wires board
  passed size q = urn_run_passed s table urn tape wires board (answered (first_of (urn_run_reasons s table urn tape wires board)) size refl q)

  emptied : (o : Option Reason) (size : Size) → first_of (urn_run_reasons s table urn tape wires board) ≡ o
      → (urn_run_result s table urn tape wires board).answer ≡ accepted size
      → (urn_run_result s table urn tape wires board).wires ≡ replicate (length wires) 0
  unfolding run_result_after
  emptied none size e q = ap (λ (z : RunResult). z.wires) (ran_on_urn_by s table urn tape wires board none e)
  emptied (some r) size e q = never size r
      (sym (ap (λ (z : RunResult). z.answer) (ran_on_urn_by s table urn tape wires board (some r) e)) ∙ q)

  same_lengths : (o : Option Reason) → first_of (urn_run_reasons s table urn tape wires board) ≡ o
      → (length (urn_run_result s table urn tape wires board).wires ≡ length wires)
      × (length (urn_run_result s table urn tape wires board).board ≡ length board)
  unfolding run_result_after
  same_lengths (some r) e =
      let f = ran_on_urn_by s table urn tape wires board (some r) e in
      (ap (λ (z : RunResult). length z.wires) f, ap (λ (z : RunResult). length z.board) f)
  same_lengths none e =
      let p = urn_run_passed s table urn tape wires board e in
      let f = same_run s table urn tape wires board p.graded p.is_sound in
      let l = run_lengths s table (ballots_for s urn) tape wires board in
      (ap (λ (z : RunResult). length z.wires) f ∙ l.0, ap (λ (z : RunResult). length z.board) f ∙ l.1)

-- the numbers of the reasons of a run on an urn
urn_run_all : (s : Shape) (table urn tape wires board : List ℕ) → All urn_run_reason_numbers (urn_run_reasons s table urn tape wires board)
unfolding All urn_run_reasons all member reason_at
urn_run_all s table urn tape wires board =
    let ns = urn_run_reason_numbers in
    let size = size_of (gates_of table) in (
      unless_fine ns _ 1 tt,
      (
        unless_fine ns _ 13 tt,
        (
          list_fine ns _ tt (λ g. tt),
          (
            unless_fine ns _ 4 tt,
            wider buffer_reason_numbers ns tt (buffer_reasons (ballot_bytes s) s.candidates size tape wires board)
                (buffers_all (ballot_bytes s) s.candidates size tape wires board),
          ),
        ),
      ),
    )

same_as_run : SameAsRun
same_as_run =
    record {
      on_chain = λ s table urn tape wires board g e. same_run s table urn tape wires board g e;
      good_ballots = λ s urn u. chain_accepted s u.graded urn u.is_sound u.number;
      other_number = λ s table urn tape wires board size g e t n. refusal_is s table urn tape wires board
          (reason_at 4 0) (by_4 s table urn tape wires board g e (test_passed s table size t).reasons n);
      unsound = λ s table urn tape wires board g e. refusal_is s table urn tape wires board (reason_at 13 0)
          (by_13 s table urn tape wires board g e);
      other_shape = λ s table urn tape wires board g. refusal_is s table urn tape wires board (reason_at 1 0)
          (by_1 s table urn tape wires board g);
    }

memory : UrnRunMemory
unfolding Each
memory s table urn tape wires board =
    let o = first_of (urn_run_reasons s table urn tape wires board) in
    let lengths = same_lengths s table urn tape wires board o refl in
    record {
      number = λ r e.
          first_number urn_run_reason_numbers (urn_run_reasons s table urn tape wires board) (urn_run_all s table urn tape wires board) r
          (after_refusal s table urn tape wires board o r refl e).0;
      refusal = λ r e. let kept = after_refusal s table urn tape wires board o r refl e in (kept.1, (kept.2, tt));
      empties = λ size e. (emptied s table urn tape wires board o size refl e, tt);
      lengths = (lengths.0, (lengths.1, tt));
    }

-- demand 2, from that of the run
module _ (s : Shape) (table : List ℕ) (size : Size) (a : RunAccuracy s table size) where
  list : List ℕ
  list = list_in s size table

  other_reason : (n : ℕ) (r : Reason) → r ≡ reason_at n 0 → n ≢ 2 → n ≢ 3 → (r.number ≢ 2) × (r.number ≢ 3)
  unfolding reason_at
  other_reason n r e two three = let q : r.number ≡ n = ap (λ (z : Reason). z.number) e in (λ h. two (sym q ∙ h), λ h. three (sym q ∙ h))

  same_reason : (r r' : Reason) (urn tape wires board : List ℕ) → (urn_run_result s list urn tape wires board).answer
      ≡ refused r → (urn_run_result s list urn tape wires board).answer ≡ refused r' → r ≡ r'
  same_reason r r' urn tape wires board e f = let q : ◌≡◌ {A = Outcome Size} (refused r) (refused r') = sym e ∙ f in cc

  not_2_or_3 : (urn tape wires board : List ℕ) (r : Reason) → (urn_run_result s list urn tape wires board).answer
      ≡ refused r → (r.number ≢ 2) × (r.number ≢ 3)
  unfolding list
  not_2_or_3 urn tape wires board r e = shape (graded_limits s) refl
    where
      inside : graded_limits s ≡ true → (b : Bool) → sound s.candidates s.grades urn ≡ b → (r.number ≢ 2) × (r.number ≢ 3)
      inside g true f = a.never_2_or_3 (ballots_for s urn) tape wires board r
          (sym (ap (λ (z : RunResult). z.answer) (same_run s list urn tape wires board g f)) ∙ e)
      inside g false f =
          other_reason 13 r (same_reason r (reason_at 13 0) urn tape wires board e
          (refusal_is s list urn tape wires board (reason_at 13 0) (by_13 s list urn tape wires board g f)))
          (λ h. omega arith) (λ h. omega arith)

      shape : (b : Bool) → graded_limits s ≡ b → (r.number ≢ 2) × (r.number ≢ 3)
      shape true g = inside g (sound s.candidates s.grades urn) refl
      shape false g =
          other_reason 1 r (same_reason r (reason_at 1 0) urn tape wires board e
          (refusal_is s list urn tape wires board (reason_at 1 0) (by_1 s list urn tape wires board g)))
          (λ h. omega arith) (λ h. omega arith)

  module _ (urn tape wires board : List ℕ) (answer : Size) (e : (urn_run_result s list urn tape wires board).answer ≡ accepted answer) where
    xs : List ℕ
    xs = ballots_for s urn

    is_run : urn_run_result s list urn tape wires board ≡ run_result s list xs tape wires board
    unfolding xs
    is_run = let p = passed s list urn tape wires board answer e in same_run s list urn tape wires board p.graded p.is_sound

    run_answers : (run_result s list xs tape wires board).answer ≡ accepted answer
    run_answers = sym (ap (λ (z : RunResult). z.answer) is_run) ∙ e

    same_closing : closing_bytes s (urn_run_result s list urn tape wires board).board
        ≡ closing_bytes s (run_result s list xs tape wires board).board
    same_closing = ap (λ (z : RunResult). closing_bytes s z.board) is_run

  urn_accuracy : UrnAccuracy s table size
  unfolding list xs
  urn_accuracy =
      record {
        never_2_or_3 = not_2_or_3;
        runs = λ urn tape wires board u m w b.
            ap (λ (z : RunResult). z.answer) (same_run s (list_in s size table) urn tape wires board u.graded u.is_sound)
            ∙ a.runs (ballots_for s urn) tape wires board (chain_accepted s u.graded urn u.is_sound u.number) m w b;
        plain = λ urn tape wires board answer e.
            same_closing urn tape wires board answer e
            ∙ a.plain (ballots_for s urn) tape wires board answer (run_answers urn tape wires board answer e);
        says_who_wins = λ urn tape wires board answer e.
            subst (SaysWhoWins s (ballots_for s urn)) (sym (same_closing urn tape wires board answer e))
            (a.says_who_wins (ballots_for s urn) tape wires board answer (run_answers urn tape wires board answer e));
      }

-- demand 3, from that of the run
module _ (s : Shape) (table one other vs ws bs ds : List ℕ)
    (first_is : (t v b : List ℕ) → urn_run_result s table one t v b ≡ run_result s table (ballots_for s one) t v b)
    (second_is : (t v b : List ℕ) → urn_run_result s table other t v b ≡ run_result s table (ballots_for s other) t v b)
    (h : RunsHide s table (ballots_for s one) (ballots_for s other) vs ws bs ds) where
  board_one : (t v b : List ℕ) → (urn_run_result s table one t v b).board ≡ (run_result s table (ballots_for s one) t v b).board
  board_one t v b = ap (λ (z : RunResult). z.board) (first_is t v b)

  board_other : (t v b : List ℕ) → (urn_run_result s table other t v b).board ≡ (run_result s table (ballots_for s other) t v b).board
  board_other t v b = ap (λ (z : RunResult). z.board) (second_is t v b)

  urn_hidden : BoardsHide s table (ballots_for s one) (ballots_for s other) (urn_run_result s table one)
      (urn_run_result s table other) vs ws bs ds
  urn_hidden =
      record {
        first_answer = λ t m. ap (λ (z : RunResult). z.answer) (first_is t vs bs) ∙ h.first_answer t m;
        first_board = λ t m. subst (Finished (wires_of (ballots_for s one) (gates_of table)) (gates_of table)
            s.candidates t) (sym (board_one t vs bs)) (h.first_board t m);
        second_answer = λ t m. ap (λ (z : RunResult). z.answer) (second_is t ws ds) ∙ h.second_answer t m;
        second_board = λ t m. subst (Finished (wires_of (ballots_for s other) (gates_of table)) (gates_of table)
            s.candidates t) (sym (board_other t ws ds)) (h.second_board t m);
        same_board = λ (t : List ℕ) m.
            let o = h.same_board t m in (
              o.0,
              (o.1.0, board_one t vs bs ∙ o.1.1 ∙ sym (board_other o.0 ws ds)),
              λ (u : List ℕ) r. o.2 u (r.0, sym (board_one t vs bs) ∙ r.1 ∙ board_other u ws ds),
            );
        any_buffers = λ t u vs' ws' bs' ds' m n ev ew eb ed same.
            board_one t vs' bs'
            ∙ h.any_buffers t u vs' ws' bs' ds' m n ev ew eb ed (sym (board_one t vs bs) ∙ same ∙ board_other u ws ds)
            ∙ sym (board_other u ws' ds');
      }

tells_no_more : UrnTellsNoMore
tells_no_more s table one other t u vs ws bs ds first second e f closing =
    let p = passed s table one t vs bs first e in
    let q = passed s table other u ws ds second f in
    let first_is : (t v b : List ℕ) → urn_run_result s table one t v b ≡ run_result s table (ballots_for s one) t v b =
    λ t v b. same_run s table one t v b p.graded p.is_sound in
    let second_is : (t v b : List ℕ) → urn_run_result s table other t v b
    ≡ run_result s table (ballots_for s other) t v b =
    λ t v b. same_run s table other t v b q.graded q.is_sound in
    let h = board_tells_no_more s table (ballots_for s one) (ballots_for s other) t u vs ws bs ds first second
    (sym (ap (λ (z : RunResult). z.answer) (first_is t vs bs)) ∙ e)
    (sym (ap (λ (z : RunResult). z.answer) (second_is u ws ds)) ∙ f)
    (sym (ap (λ (z : RunResult). closing_bytes s z.board) (first_is t vs bs)) ∙ closing
    ∙ ap (λ (z : RunResult). closing_bytes s z.board) (second_is u ws ds)) in
    (h.0, h.1, urn_hidden s table one other vs ws bs ds first_is second_is h.2)

pub urn_run_holds : UrnRunHolds
urn_run_holds =
    record {
      same_as_run = same_as_run;
      memory = memory;
      accuracy = λ s table size e. urn_accuracy s table size (three_demands.accuracy s table size e);
      hiding = tells_no_more;
    }

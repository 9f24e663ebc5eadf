-- Each jury's bits in a run for 64 are those of its single run, so the three demands hold for it.
-- Assumes nothing.
use Rattle.std.specs.Prelude.{None}
use mathlib.Core.Path.{◌≡◌, ◌∙◌, refl, sym, ap, subst}
use mathlib.Core.Bool.{true}
use mathlib.Core.Option.{Option, none, some}
use mathlib.Core.Logic.{⊎_elim}
use mathlib.Core.List.{List, ◌++◌}
use Prim.Native.Nat.{ℕ, ◌+◌, ◌-◌, ◌%◌, ◌≤◌, ◌<◌}
use native.Mathlib.Nat.{add-zero, mod-lt, zero-lt-suc}
use native.Mathlib.Omega.{arith}
use lib.ListN.{length, get_or, replicate, length-replicate}
use lib.Seq.{get_or-drop}
use borrow.Author.Tests.{eq-eqb}
use Rattle.gates.specs.Gate.{Gate, gates_of}
use Rattle.gates.specs.Wires.{wire, wires_of}
use Rattle.gates.specs.Board.{conditional_count, board_of, Bits}
use Rattle.gates.specs.Hiding.{Finished}
use Rattle.gates.proofs.WireLaws.{length_wires}
use Rattle.gates.proofs.Evaluating.{accepted_list}
use Rattle.gates.proofs.Laws.{AllGood, all_good, wires_bits, wire_bit, output_is}
use Rattle.gates.proofs.Hiding.{board_finished, none_above}
use Rattle.jury.specs.declared.shape.Shape.{Shape}
use Rattle.jury.specs.Shape.{ballot_bytes}
use Rattle.jury.specs.Reason.{Reason, reason_at, first_of}
use Rattle.jury.specs.Ballots.{ballot_kind_reasons, ballot_kind_reason_numbers, ballot_reasons}
use Rattle.jury.proofs.BallotLaws.{judged_by, judged_kind}
use Rattle.jury.proofs.AcceptedLaws.{accepted_back}
use Rattle.jury.proofs.AcceptedLaws as ballots_laws
use Rattle.basics.specs.Lists.{all, member}
use Rattle.basics.proofs.Cases.{below_or_not}
use Rattle.tally.specs.Answer.{refused, accepted, Size, size_of}
use Rattle.tally.specs.Test.{test_reasons, test_reason_numbers}
use Rattle.tally.specs.SaysWhoWins.{SaysWhoWins}
use Rattle.tally.specs.Memory.{Each}
use Rattle.tally.specs.Run.{RunResult, run_result}
use Rattle.tally.specs.Hiding.{closing_bytes}
use Rattle.tally.specs.Demands.{list_in}
use Rattle.tally.proofs.TestReasons.{never}
use Rattle.tally.proofs.RunReasons.{RunPassed, run_passed}
use Rattle.tally.proofs.Hiding.{ran_accepted, run_answer, run_wires, run_board_lem, board_tells_no_more}
use Rattle.tally.proofs.Demands.{three_demands}
use Rattle.tally.proofs.Numbering.{All, first_number, both, unless_fine, wider, test_all}
use Rattle.batch_lanes.specs.Lane.{lane_count, lane_of, words_of}
use Rattle.batch_lanes.proofs.ListLaws.{lanes_length, lanes_bits, lanes_zeros, lanes_of_words, length_words}
use Rattle.batch.specs.Ballots.{word_ballot_kind_reasons, word_ballot_reasons}
use Rattle.batch.specs.Call.{Call}
use Rattle.batch.specs.Run.{word_buffer_reasons, word_buffer_reason_numbers, batch_reasons, batch_reason_numbers, board_alone, batch_result_after, batch_result}
use Rattle.batch.specs.Theorems.{run_alone, EachAsAlone, AcceptedIfAll, BatchMemory, BatchAccuracy, BatchHiding}
use Rattle.batch.proofs.Reasons.{buffers_all, kind_all, BatchPassed, batch_passed, batch_passed_back, result_by}

-- every byte of a finished board of good gates on bits is a bit
board_bits : (ws : List ℕ) (gs : List Gate) (k : ℕ) (tape : List ℕ) → AllGood (length ws) gs → Bits ws → k
    ≤ length gs → length tape ≡ conditional_count gs
    → (x : ℕ) → get_or (board_of (wires_of ws gs) gs k tape) x 0 ≤ 1
board_bits ws gs k tape good bits enough l x = ⊎_elim shown closing (below_or_not x (conditional_count gs))
  where
    board : List ℕ
    board = board_of (wires_of ws gs) gs k tape

    done : Finished (wires_of ws gs) gs k tape (board_of (wires_of ws gs) gs k tape)
    done = board_finished (wires_of ws gs) gs k tape (omega (arith, length_wires ws gs)) l

    small : (n m : ℕ) → n ≡ m % 2 → n ≤ 1
    small n m e = omega (arith, mod-lt m (zero-lt-suc 1))

    shown : x < conditional_count gs → get_or (board_of (wires_of ws gs) gs k tape) x 0 ≤ 1
    shown h = small (get_or (board_of (wires_of ws gs) gs k tape) x 0) _ (done.shown x h)

    closing : conditional_count gs ≤ x → get_or (board_of (wires_of ws gs) gs k tape) x 0 ≤ 1
    closing h =
        let c = conditional_count gs in
        let n : c + (x - c) ≡ x = omega arith in
        let e : get_or (board_of (wires_of ws gs) gs k tape) x 0 ≡ wire (wires_of ws gs) (length (wires_of ws gs) - k + (x - c)) =
        ap (λ (m : ℕ). get_or (board_of (wires_of ws gs) gs k tape) m 0) (sym n)
        ∙ sym (get_or-drop c (board_of (wires_of ws gs) gs k tape) (x - c) 0)
        ∙ ap (λ (r : List ℕ). get_or r (x - c) 0) done.closing
        ∙ output_is k (wires_of ws gs) (x - c) in
        omega (arith, e, wire_bit (wires_of ws gs) (wires_bits ws gs good bits) (length (wires_of ws gs) - k + (x - c)))

-- for bits of the right length, only the tests of the shape's kind decide
by_kind : (s : Shape) (xs : List ℕ) → length xs ≡ ballot_bytes s → ((i : ℕ) → get_or xs i 0 ≤ 1)
    → first_of (ballot_reasons s xs) ≡ first_of (ballot_kind_reasons s xs)
by_kind s xs size bits =
    judged_by s xs true None (first_of (ballot_kind_reasons s xs)) (eq-eqb (length xs) (ballot_bytes s) size) (none_above 0 xs bits)
    refl ∙ judged_kind (first_of (ballot_kind_reasons s xs))

module _ (c : Call) where
  -- if a call answers G and C, no reason applies, and both numbers are the list's
  answered : (size : Size) (o : Option Reason) → first_of (batch_reasons c) ≡ o
      → (batch_result_after o c).answer ≡ accepted size → (first_of (batch_reasons c) ≡ none) × (size ≡ size_of (gates_of c.table))
  unfolding batch_result_after
  answered size none e f = (e, cc)
  answered size (some r) e f = never size r f

  whole : batch_result c ≡ batch_result_after (first_of (batch_reasons c)) c
  whole = result_by c (first_of (batch_reasons c)) refl

  batch_accepted : (size : Size) → (batch_result c).answer ≡ accepted size
      → (first_of (batch_reasons c) ≡ none) × (size ≡ size_of (gates_of c.table))
  batch_accepted size e = answered size (first_of (batch_reasons c)) refl (sym (ap (λ (r : RunResult). r.answer) whole) ∙ e)

  -- if a call is accepted, so is every single run
  module _ (p : BatchPassed c) where
    alone_passed : (j : ℕ) → j < lane_count
        → RunPassed c.shape c.table (lane_of j c.ballots) (lane_of j c.tape) (lane_of j c.wires)
        (lane_of j c.board)
    alone_passed j h =
        record {
          test = p.test;
          ballots_passed = ballots_laws.accepted c.shape (lane_of j c.ballots) p.test.within
              (by_kind c.shape (lane_of j c.ballots) (lanes_length j c.ballots ∙ p.ballots_passed.size)
              (lanes_bits j c.ballots) ∙ p.ballots_passed.kinds j h);
          mask = record { size = lanes_length j c.tape ∙ p.tape_length; bits = lanes_bits j c.tape };
          wires_length = lanes_length j c.wires ∙ p.wires_length;
          board_length = lanes_length j c.board ∙ p.board_length;
        }

    lists : ℕ → List ℕ
    lists j = board_alone c j

    enough : c.shape.candidates ≤ length (gates_of c.table)
    enough = let size = size_of (gates_of c.table) in
        (accepted_list (ballot_bytes c.shape) c.shape.candidates c.table size.gates size.conditional
        p.test.tests).enough

    good : (j : ℕ) → AllGood (length (lane_of j c.ballots)) (gates_of c.table)
    good j =
        let size = size_of (gates_of c.table) in
        let f = accepted_list (ballot_bytes c.shape) c.shape.candidates c.table size.gates
        size.conditional p.test.tests in
        subst (λ (n : ℕ). AllGood n (gates_of c.table))
        (add-zero (ballot_bytes c.shape) ∙ sym (lanes_length j c.ballots ∙ p.ballots_passed.size))
        (all_good (ballot_bytes c.shape) 0 (gates_of c.table) f.good)

    lane_board : (j : ℕ) → j < lane_count → lane_of j (words_of (conditional_count (gates_of c.table) + c.shape.candidates) lists) ≡ lists j
    unfolding lists
    lane_board j h =
        lanes_of_words (conditional_count (gates_of c.table) + c.shape.candidates) lists j h
        (λ i. (board_finished (wires_of (lane_of i c.ballots) (gates_of c.table)) (gates_of c.table)
        c.shape.candidates (lane_of i c.tape)
        (omega (arith, enough, length_wires (lane_of i c.ballots) (gates_of c.table)))
        (lanes_length i c.tape ∙ p.tape_length)).size)
        (λ i x. board_bits (lane_of i c.ballots) (gates_of c.table) c.shape.candidates (lane_of i c.tape)
        (good i) (lanes_bits i c.ballots) enough (lanes_length i c.tape ∙ p.tape_length) x)

    outcome : batch_result c ≡ batch_result_after none c
    outcome = result_by c none (batch_passed_back c p)

    alone_answer : (j : ℕ) → j < lane_count → (run_alone j c).answer ≡ accepted (size_of (gates_of c.table))
    alone_answer j h =
        let q = alone_passed j h in
        run_answer c.shape c.table (lane_of j c.ballots) (lane_of j c.wires) (lane_of j c.board)
        (lane_of j c.tape) q (lane_of j c.tape) q.mask

    alone_wires : (j : ℕ) → j < lane_count → lane_of j (batch_result c).wires ≡ (run_alone j c).wires
    unfolding batch_result_after
    alone_wires j h =
        let q = alone_passed j h in
        ap (λ (r : RunResult). lane_of j r.wires) outcome ∙ lanes_zeros j (length c.wires)
        ∙ ap (λ (n : ℕ). replicate n 0) (sym (lanes_length j c.wires))
        ∙ sym (run_wires c.shape c.table (lane_of j c.ballots) (lane_of j c.wires) (lane_of j c.board)
        (lane_of j c.tape) q (lane_of j c.tape) q.mask)

    alone_board : (j : ℕ) → j < lane_count → lane_of j (batch_result c).board ≡ (run_alone j c).board
    unfolding batch_result_after lists
    alone_board j h =
        let q = alone_passed j h in
        ap (λ (r : RunResult). lane_of j r.board) outcome ∙ lane_board j h
        ∙ sym (run_board_lem c.shape c.table (lane_of j c.ballots) (lane_of j c.wires) (lane_of j c.board)
        (lane_of j c.tape) q (lane_of j c.tape) q.mask)

-- Each jury has what its single run gives.
pub each_as_alone : EachAsAlone
each_as_alone c size e j h =
    let a = batch_accepted c size e in
    let p = batch_passed c a.0 in (
      alone_answer c p j h ∙ ap accepted (sym a.1),
      alone_wires c p j h,
      alone_board c p j h,
    )

-- If all 64 single runs are accepted, the call is accepted.
pub accepted_as_all : AcceptedIfAll
unfolding batch_result_after
accepted_as_all c size e =
    ap (λ (r : RunResult). r.answer) (result_by c none (batch_passed_back c passed))
    ∙ ap accepted
    (sym (ran_accepted c.shape c.table (lane_of 0 c.ballots) (lane_of 0 c.wires) (lane_of 0 c.board)
    (lane_of 0 c.tape) size (e 0 (omega arith))).1)
  where
    alone : (j : ℕ) → j < lane_count
        → RunPassed c.shape c.table (lane_of j c.ballots) (lane_of j c.tape) (lane_of j c.wires)
        (lane_of j c.board)
    alone j h =
        run_passed c.shape c.table (lane_of j c.ballots) (lane_of j c.tape) (lane_of j c.wires) (lane_of j c.board)
        (ran_accepted c.shape c.table (lane_of j c.ballots) (lane_of j c.wires) (lane_of j c.board)
        (lane_of j c.tape) size (e j h)).0

    passed : BatchPassed c
    passed =
        let q = alone 0 (omega arith) in
        record {
          test = q.test;
          ballots_passed = record {
            size = sym (lanes_length 0 c.ballots) ∙ q.ballots_passed.size;
            kinds = λ j h.
                let b = (alone j h).ballots_passed in
                sym (by_kind c.shape (lane_of j c.ballots) b.size b.bits) ∙ accepted_back c.shape (lane_of j c.ballots) b;
          };
          tape_length = sym (lanes_length 0 c.tape) ∙ q.mask.size;
          wires_length = sym (lanes_length 0 c.wires) ∙ q.wires_length;
          board_length = sym (lanes_length 0 c.board) ∙ q.board_length;
        }

-- the numbers of the call's reasons
batch_all : (c : Call) → All batch_reason_numbers (batch_reasons c)
unfolding batch_reasons word_ballot_reasons All all member reason_at
batch_all c =
    let ns = batch_reason_numbers in
    let size = size_of (gates_of c.table) in
    let test = test_reasons c.shape c.table in
    let ballots = word_ballot_reasons c.shape c.ballots in
    let buffers = word_buffer_reasons (ballot_bytes c.shape) c.shape.candidates size c.tape c.wires c.board in
    both ns (test ++ ballots) buffers
    (both ns test ballots (wider test_reason_numbers ns tt test (test_all c.shape c.table))
    (unless_fine ns _ 4 tt, wider ballot_kind_reason_numbers ns tt (word_ballot_kind_reasons c.shape c.ballots) (kind_all c.shape c.ballots)))
    (wider word_buffer_reason_numbers ns tt buffers (buffers_all (ballot_bytes c.shape) c.shape.candidates size c.tape c.wires c.board))

module _ (c : Call) where
  after_refusal : (o : Option Reason) (r : Reason) → (batch_result_after o c).answer ≡ refused r
      → (o ≡ some r) × ((batch_result_after o c).wires ≡ c.wires) × ((batch_result_after o c).board ≡ c.board)
  unfolding batch_result_after
  after_refusal none r e = never (size_of (gates_of c.table)) r (sym e)
  after_refusal (some q) r e = let same : q ≡ r = cc in (ap some same, refl, refl)

  after_lengths : (o : Option Reason) → first_of (batch_reasons c) ≡ o
      → (length (batch_result_after o c).wires ≡ length c.wires) × (length (batch_result_after o c).board ≡ length c.board)
  unfolding batch_result_after
  after_lengths none e =
      let p = batch_passed c e in (
        length-replicate (length c.wires) 0,
        length_words (conditional_count (gates_of c.table) + c.shape.candidates) _ ∙ sym p.board_length,
      )
  after_lengths (some r) e = (refl, refl)

pub batch_memory : BatchMemory
unfolding batch_result batch_result_after Each
batch_memory c =
    let long = after_lengths c (first_of (batch_reasons c)) refl in
    record {
      number = λ r e.
          first_number batch_reason_numbers (batch_reasons c) (batch_all c) r (after_refusal c (first_of (batch_reasons c)) r e).0;
      refusal = λ r e. let q = after_refusal c (first_of (batch_reasons c)) r e in (q.1, (q.2, tt));
      empties = λ size e. (ap (λ (r : RunResult). r.wires) (result_by c none (batch_accepted c size e).0), tt);
      lengths = (long.0, (long.1, tt));
    }

pub batch_accuracy : BatchAccuracy
batch_accuracy c table size answer w own e j h =
    let a = each_as_alone c answer e j h in
    let s = c.shape in
    let run : List ℕ → RunResult =
    λ (l : List ℕ). run_result s l (lane_of j c.ballots) (lane_of j c.tape) (lane_of j c.wires)
    (lane_of j c.board) in
    let f : (run (list_in s size table)).answer ≡ accepted answer = subst (λ (l : List ℕ). (run l).answer ≡ accepted answer) own a.0 in
    let b : lane_of j (batch_result c).board ≡ (run (list_in s size table)).board = a.2 ∙ ap (λ (l : List ℕ). (run l).board) own in
    let q = three_demands.accuracy s table size w in (
      ap (closing_bytes s) b ∙ q.plain (lane_of j c.ballots) (lane_of j c.tape) (lane_of j c.wires) (lane_of j c.board) answer f,
      subst (λ (x : List ℕ). SaysWhoWins s (lane_of j c.ballots) (closing_bytes s x)) (sym b)
          (q.says_who_wins (lane_of j c.ballots) (lane_of j c.tape) (lane_of j c.wires) (lane_of j c.board) answer f),
    )

-- call d with the shape and list of call c
abbrev alike : Call → Call → Call
alike c d =
    record { shape = c.shape; table = c.table; ballots = d.ballots; tape = d.tape; wires = d.wires; board = d.board }

pub batch_hiding : BatchHiding
batch_hiding c c' first second shape table e f i j hi hj closing =
    let same : alike c c' ≡ c' = rw (shape, table) refl in
    let a = each_as_alone c first e i hi in
    let b = each_as_alone (alike c c') second (ap (λ (d : Call). (batch_result d).answer) same ∙ f) j hj in
    (board_tells_no_more c.shape c.table (lane_of i c.ballots) (lane_of j c'.ballots) (lane_of i c.tape) (lane_of j c'.tape)
    (lane_of i c.wires) (lane_of j c'.wires) (lane_of i c.board) (lane_of j c'.board) first second a.0 b.0
    (sym (ap (closing_bytes c.shape) a.2) ∙ closing
    ∙ sym (ap (λ (d : Call). closing_bytes c.shape (lane_of j (batch_result d).board)) same) ∙ ap (closing_bytes c.shape) b.2)).2

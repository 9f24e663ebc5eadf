-- A status means what `Status` says if each reason has a number from 1 to 254.
-- Assumes nothing.
use mathlib.Core.Path.{◌≡◌, ◌∙◌, refl, sym, ap}
use mathlib.Core.Logic.{◌↔◌}
use mathlib.Core.Bool.{Bool, true, false, ◌&&◌}
use mathlib.Core.List.{List}
use Prim.Native.Nat.{ℕ, ◌<◌}
use native.Mathlib.Omega.{arith}
use lib.Dec.{T, ltb, leb, leb→le, ltb→lt}
use lib.ListN.{length}
use borrow.Author.Tests.{ltb-true, ltb-false}
use Rattle.basics.specs.Lists.{all}
use Rattle.gates.proofs.Goodness.{and_left, and_right}
use Rattle.jury.specs.Reason.{Reason}
use Rattle.tally.specs.Answer.{Outcome, refused, accepted, has_number_in}
use Rattle.tally.proofs.Numbering.{number_passes}
use Rattle.c_answers.specs.Numbers.{answer_numbers, status_of, short_answer, status}
use Rattle.c_answers.specs.Status.{is_accepted, StatusReads}
use Rattle.c_answers.proofs.Answering.{short_status, room_status}

-- a number between 0, an accepted call, and 255, an answer array that is too short
unfoldable pub between : ℕ → Bool
between n = leb 1 n && ltb n short_answer

module _ (ns : List ℕ) (fit : T (all between ns)) where
  -- if the first number of an answer is 0 exactly for an accepted call, and never 255
  reads : {Values : Type 0} (needed : ℕ) (o : Outcome Values) (told answer : List ℕ)
      → status_of (answer_numbers o told) < short_answer → ((status_of (answer_numbers o told) ≡ 0) ↔ T (is_accepted o))
      → ((r : Reason) → o ≡ refused r → (status_of (answer_numbers o told) ≡ r.number) × T (has_number_in ns r))
      → StatusReads ns needed o told answer
  reads needed o told answer small zero its =
      let numbers = answer_numbers o told in
      record {
        short = (λ e. by_length (ltb (length answer) needed) refl e, λ l. short_status needed answer l numbers);
        zero_accepted = λ l. (
          λ e. zero.0 (sym (room_status needed answer l numbers) ∙ e),
          λ a. room_status needed answer l numbers ∙ zero.1 a,
        );
        reason = λ l r e. (room_status needed answer l numbers ∙ (its r e).0, (its r e).1);
      }
    where
      by_length : (t : Bool) → ltb (length answer) needed ≡ t → status needed (answer_numbers o told) answer ≡ short_answer → length answer < needed
      by_length true t e = ltb-true (length answer) needed t
      by_length false t e = absurd (omega (arith, small, room_status needed answer (ltb-false (length answer) needed t) (answer_numbers o told)))

  -- by the outcome, if each reason of the call has one of these numbers
  by_outcome : {Values : Type 0} (needed : ℕ) (o : Outcome Values) (told answer : List ℕ)
      → ((r : Reason) → o ≡ refused r → T (has_number_in ns r)) → StatusReads ns needed o told answer
  unfolding status_of answer_numbers is_accepted between
  by_outcome needed (refused r) told answer h =
      let b = number_passes between ns r fit (h r refl) in
      let low = leb→le 1 r.number (and_left (leb 1 r.number) (ltb r.number short_answer) b) in
      reads needed (refused r) told answer
      (ltb→lt r.number short_answer (and_right (leb 1 r.number) (ltb r.number short_answer) b))
      (λ e. absurd (omega (arith, low)), λ a. absurd a)
      (λ q e. let same : r ≡ q = cc in (ap (λ (x : Reason). x.number) same, h q e))
  by_outcome needed (accepted v) told answer h =
      reads needed (accepted v) told answer (omega arith) (λ e. tt, λ a. refl)
      (λ q e. let z : ◌≡◌ {A = ℕ} 0 1 = cc in absurd (omega arith))

-- the meaning of a call's status, from the numbers of its reasons
pub status_means : {Values : Type 0} {ns : List ℕ} {needed : ℕ} {o : Outcome Values} {told answer : List ℕ}
    → T (all between ns) → ((r : Reason) → o ≡ refused r → T (has_number_in ns r)) → StatusReads ns needed o told answer
status_means {Values} {ns} {needed} {o} {told} {answer} fit h = by_outcome ns fit needed o told answer h

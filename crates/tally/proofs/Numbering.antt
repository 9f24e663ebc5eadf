-- The first reason of a list of tests has the number of one of them.
-- Assumes nothing.
use Rattle.std.specs.Prelude.{Some, None, Result, Ok, Err}
use Rattle.std.specs.Prelude as prelude
use mathlib.Core.Path.{◌≡◌, refl, sym, subst}
use mathlib.Core.Logic.{⊎_elim}
use mathlib.Core.Bool.{Bool, true, false, ◌&&◌, ◌||◌}
use mathlib.Core.Option.{Option, none, some}
use mathlib.Core.List.{List, [], ◌∷◌, ◌++◌}
use Prim.Native.Nat.{ℕ}
use lib.Dec.{T, eqb}
use lib.ListN.{length}
use borrow.Author.Tests.{eqb-true}
use Rattle.basics.specs.Lists.{all, member}
use Rattle.basics.proofs.Flags.{and_first, and_second, or_either, T_true, true_T, either}
use Rattle.gates.specs.Gate.{gates_of}
use Rattle.gates.specs.Test.{first_above_one}
use Rattle.gates.specs.declared.list.ListSize.{ListSize}
use Rattle.gates.specs.declared.list.ListFault.{ListFault}
use Rattle.gates.specs.declared.list.ListFault.TheVariants.{PartOfAGate, TooFewGates, TooManyGates, BadGate}
use Rattle.jury.specs.declared.shape.Shape.{Shape}
use Rattle.jury.specs.Shape.{is_ranking, ballot_bytes}
use Rattle.jury.specs.Reason.{Reason, reason_at, reason_of, refusal_of, unless, found_at, list_reason, first_of}
use Rattle.jury.specs.Ballots.{graded_reasons, ranked_reasons, ballot_kind_reasons, ballot_kind_reason_numbers, ballot_reasons, ballot_reason_numbers}
use Rattle.jury.proofs.BallotLaws.{graded_reasons_lem, ranked_reasons_lem}
use Rattle.tally.specs.OwnList.{own_list}
use Rattle.tally.specs.Answer.{refused, outcome, has_number_in, Size, size_of}
use Rattle.tally.specs.Count.{count_reason, count_reasons, count_reason_numbers}
use Rattle.tally.specs.Measure.{measure_reasons, measure_reason_numbers, measures_of, measure_outcome}
use Rattle.tally.specs.Run.{buffer_reasons, buffer_reason_numbers, run_reasons, run_reason_numbers}
use Rattle.tally.specs.Test.{test_reasons, test_reason_numbers, test_outcome}
use Rattle.tally.specs.Write.{write_reasons, write_reason_numbers, write_outcome}
use Rattle.tally.proofs.RunReasons.{outcome_refused}

-- there is no reason, or its number is one of these
unfoldable pub Fine : List ℕ → Option Reason → Type 0
Fine ns none = Unit {0}
Fine ns (some r) = T (has_number_in ns r)

unfoldable pub All : List ℕ → List (Option Reason) → Type 0
All ns [] = Unit {0}
All ns (o ∷ os) = Fine ns o × All ns os

module _ (ns : List ℕ) where
  pub first_fine : (os : List (Option Reason)) → All ns os → Fine ns (first_of os)
  unfolding All Fine first_of
  first_fine [] a = tt
  first_fine (none ∷ os) a = first_fine os a.1
  first_fine (some r ∷ os) a = a.0

  -- the reason of a refused call has one of these numbers
  pub first_number : (os : List (Option Reason)) → All ns os → (r : Reason) → first_of os ≡ some r → T (has_number_in ns r)
  unfolding Fine
  first_number os a r e = subst (Fine ns) e (first_fine os a)

  pub refused_number : {Values : Type 0} (os : List (Option Reason)) (values : Values) → All ns os → (r : Reason)
      → outcome (first_of os) values ≡ refused r → T (has_number_in ns r)
  refused_number os values a r e = first_number os a r (outcome_refused (first_of os) values r e)

  pub both : (os qs : List (Option Reason)) → All ns os → All ns qs → All ns (os ++ qs)
  unfolding All
  both [] qs a b = b
  both (o ∷ os) qs a b = (a.0, both os qs a.1 b)

  pub unless_fine : (t : Bool) (n : ℕ) → T (has_number_in ns (reason_at n 0)) → Fine ns (unless t n)
  unfolding Fine unless
  unless_fine true n h = tt
  unless_fine false n h = h

  pub found_fine : (n : ℕ) (p : prelude.Option ℕ) → ((i : ℕ) → T (has_number_in ns (reason_at n i))) → Fine ns (found_at n p)
  unfolding Fine found_at
  found_fine n None h = tt
  found_fine n (Some i) h = h i

  pub list_fine : (t : Result ListSize ListFault) → T (has_number_in ns (reason_at 2 0))
      → ((g : ℕ) → T (has_number_in ns (reason_at 3 g))) → Fine ns (list_reason t)
  unfolding Fine list_reason refusal_of reason_of
  list_fine (Ok size) two three = tt
  list_fine (Err PartOfAGate) two three = two
  list_fine (Err TooFewGates) two three = two
  list_fine (Err TooManyGates) two three = two
  list_fine (Err (BadGate g)) two three = three g

-- a test that all these numbers pass is passed by the number of each reason that has one of them
pub number_passes : (test : ℕ → Bool) (ns : List ℕ) (r : Reason) → T (all test ns) → T (has_number_in ns r) → T (test r.number)
unfolding all member
number_passes test [] r a h = absurd h
number_passes test (n ∷ ns) r a h =
    let passed = T_true (test n && all test ns) a in
    ⊎_elim
    (λ e. subst (λ (m : ℕ). T (test m)) (sym (eqb-true r.number n e)) (true_T (test n) (and_first (test n) (all test ns) passed)))
    (λ e. number_passes test ns r (true_T (all test ns) (and_second (test n) (all test ns) passed)) (true_T (has_number_in ns r) e))
    (or_either (eqb r.number n) (has_number_in ns r) (T_true (eqb r.number n || has_number_in ns r) h))

-- numbers that are all among others
abbrev pub Among : List ℕ → List ℕ → Type 0
Among ns ms = T (all (λ n. member n ms) ns)

pub wider_number : (ns ms : List ℕ) → Among ns ms → (r q : Reason) → r.number ≡ q.number → T (has_number_in ns q) → T (has_number_in ms r)
wider_number ns ms among r q e h =
    subst (λ (m : ℕ). T (member m ms)) (sym e) (number_passes (λ n. member n ms) ns q among h)

pub wider : (ns ms : List ℕ) → Among ns ms → (os : List (Option Reason)) → All ns os → All ms os
unfolding All Fine
wider ns ms among [] a = tt
wider ns ms among (none ∷ os) a = (tt, wider ns ms among os a.1)
wider ns ms among (some r ∷ os) a = (
  wider_number ns ms among r r refl a.0,
  wider ns ms among os a.1,
)

-- the tests of each group
pub graded_all : (s : Shape) (xs : List ℕ) → All (6 ∷ []) (graded_reasons s xs)
unfolding All graded_reasons member reason_at
graded_all s xs = (found_fine (6 ∷ []) 6 _ (λ i. tt), tt)

ranked_all : (s : Shape) (xs : List ℕ) → All (11 ∷ 12 ∷ []) (ranked_reasons s xs)
unfolding All ranked_reasons member reason_at
ranked_all s xs = (found_fine (11 ∷ 12 ∷ []) 11 _ (λ i. tt), (found_fine (11 ∷ 12 ∷ []) 12 _ (λ b. tt), tt))

kind_all : (s : Shape) (xs : List ℕ) → All ballot_kind_reason_numbers (ballot_kind_reasons s xs)
unfolding all member reason_at
kind_all s xs = either (is_ranking s)
    (λ e. subst (All ballot_kind_reason_numbers) (sym (ranked_reasons_lem s xs e))
    (wider (11 ∷ 12 ∷ []) ballot_kind_reason_numbers tt (ranked_reasons s xs) (ranked_all s xs)))
    (λ e. subst (All ballot_kind_reason_numbers) (sym (graded_reasons_lem s xs e))
    (wider (6 ∷ []) ballot_kind_reason_numbers tt (graded_reasons s xs) (graded_all s xs)))

-- the tests of ballots, from those of their kind
pub ballots_from : (ns : List ℕ) → Among (4 ∷ 5 ∷ []) ns → (s : Shape) (xs : List ℕ) → All ns (ballot_kind_reasons s xs) → All ns (ballot_reasons s xs)
unfolding All ballot_reasons member reason_at
ballots_from ns among s xs a =
    let size = unless (eqb (length xs) (ballot_bytes s)) 4 in
    let byte = found_at 5 (first_above_one 0 xs) in
    let two : List ℕ = 4 ∷ 5 ∷ [] in
    both ns (size ∷ byte ∷ []) (ballot_kind_reasons s xs)
    (wider two ns among (size ∷ byte ∷ []) (unless_fine two _ 4 tt, (found_fine two 5 _ (λ i. tt), tt))) a

pub ballots_all : (s : Shape) (xs : List ℕ) → All ballot_reason_numbers (ballot_reasons s xs)
unfolding all member reason_at
ballots_all s xs =
    ballots_from ballot_reason_numbers tt s xs (wider ballot_kind_reason_numbers ballot_reason_numbers tt (ballot_kind_reasons s xs) (kind_all s xs))

pub test_all : (s : Shape) (table : List ℕ) → All test_reason_numbers (test_reasons s table)
unfolding All test_reasons member reason_at
test_all s table = (unless_fine test_reason_numbers _ 1 tt, (list_fine test_reason_numbers _ tt (λ g. tt), tt))

pub list_and_ballots_all : (ns : List ℕ) → Among test_reason_numbers ns → Among ballot_reason_numbers ns
    → (s : Shape) (table ballots : List ℕ) → All ns (test_reasons s table ++ ballot_reasons s ballots)
list_and_ballots_all ns of_list of_ballots s table ballots =
    both ns (test_reasons s table) (ballot_reasons s ballots)
    (wider test_reason_numbers ns of_list (test_reasons s table) (test_all s table))
    (wider ballot_reason_numbers ns of_ballots (ballot_reasons s ballots) (ballots_all s ballots))

pub buffers_all : (i k : ℕ) (size : Size) (tape wires board : List ℕ) → All buffer_reason_numbers (buffer_reasons i k size tape wires board)
unfolding All buffer_reasons member reason_at
buffers_all i k size tape wires board =
    let ns = buffer_reason_numbers in
    (unless_fine ns _ 7 tt, (found_fine ns 8 _ (λ i. tt), (unless_fine ns _ 9 tt, (unless_fine ns _ 10 tt, tt))))

-- the entry points
pub measure_number : (s : Shape) (r : Reason) → measure_outcome s ≡ refused r → T (has_number_in measure_reason_numbers r)
unfolding measure_outcome measure_reasons All member reason_at
measure_number s = refused_number measure_reason_numbers (measure_reasons s) (measures_of s) (unless_fine measure_reason_numbers _ 1 tt, tt)

pub write_number : (s : Shape) (table : List ℕ) (r : Reason) → write_outcome s table ≡ refused r → T (has_number_in write_reason_numbers r)
unfolding write_outcome write_reasons All member reason_at
write_number s table =
    let ns = write_reason_numbers in
    refused_number ns (write_reasons s table) (size_of (own_list s)) (unless_fine ns _ 1 tt, (unless_fine ns _ 2 tt, tt))

pub test_number : (s : Shape) (table : List ℕ) (r : Reason) → test_outcome s table ≡ refused r → T (has_number_in test_reason_numbers r)
unfolding test_outcome
test_number s table = refused_number test_reason_numbers (test_reasons s table) (size_of (gates_of table)) (test_all s table)

pub count_number : (s : Shape) (ballots : List ℕ) (r : Reason) → count_reason s ballots ≡ some r → T (has_number_in count_reason_numbers r)
unfolding count_reason count_reasons All all member reason_at
count_number s ballots =
    let ns = count_reason_numbers in
    first_number ns _ (unless_fine ns _ 1 tt, wider ballot_reason_numbers ns tt (ballot_reasons s ballots) (ballots_all s ballots))

pub run_number : (s : Shape) (table ballots tape wires board : List ℕ) (r : Reason)
    → first_of (run_reasons s table ballots tape wires board) ≡ some r → T (has_number_in run_reason_numbers r)
unfolding run_reasons all member reason_at
run_number s table ballots tape wires board =
    let ns = run_reason_numbers in
    let buffers = buffer_reasons (ballot_bytes s) s.candidates (size_of (gates_of table)) tape wires board in
    first_number ns (test_reasons s table ++ ballot_reasons s ballots ++ buffers)
    (both ns (test_reasons s table ++ ballot_reasons s ballots) buffers
    (list_and_ballots_all ns tt tt s table ballots)
    (wider buffer_reason_numbers ns tt buffers (buffers_all (ballot_bytes s) s.candidates (size_of (gates_of table)) tape wires board)))

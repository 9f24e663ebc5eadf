-- The tests of ballots, one step at a time.
-- Assumes nothing.
use mathlib.Core.Path.{◌≡◌, ◌∙◌, refl, ap}
use mathlib.Core.Bool.{Bool, true, false, cond}
use mathlib.Core.Logic.{⊎_elim}
use mathlib.Core.Option.{Option, none, some}
use mathlib.Core.List.{List, [], ◌∷◌}
use Prim.Native.Nat.{ℕ, suc, ◌+◌, ◌-◌, ◌≤◌, ◌<◌}
use native.Mathlib.Omega.{arith}
use lib.Dec.{eqb}
use lib.ListN.{length, take, drop, length-take, get_or-eq_default}
use lib.Seq.{get_or-take, get_or-drop}
use borrow.Author.Tests.{eq-eqb, ne_eqb}
use Rattle.std.specs.Prelude.{Some, None}
use Rattle.std.specs.Prelude as prelude
use Rattle.gates.specs.Board.{Bits}
use Rattle.gates.specs.Test.{first_above_one}
use Rattle.jury.specs.declared.shape.Shape.{Shape}
use Rattle.jury.specs.Shape.{is_ranking, ballot_bytes}
use Rattle.jury.specs.declared.reason.Refusal.TheVariants.{NotAsymmetric, NotWeakOrder}
use Rattle.jury.specs.Rankings.{before, first_not_asymmetric, first_not_weak_order}
use Rattle.jury.specs.WeakOrder.{StrictWeakOrder}
use Rattle.jury.proofs.RankingLaws.{passes_orders}
use Rattle.jury.specs.Reason.{reason_of, reason_at, Reason, unless, found_at, first_of}
use Rattle.jury.specs.Ballots.{ones, rows_of, first_bad_row, graded_reasons, ranked_reasons, ballot_kind_reasons, ballot_reasons}
use Rattle.std.specs.List.{sum}
use Rattle.std.proofs.lemmas.List.Sums.{sum_by_from}
use Rattle.basics.proofs.Arithmetic.{bit_cases}
use Rattle.basics.proofs.Cases.{below_or_not}

-- bits add up to the number of ones among them
pub bits_sum : (xs : List ℕ) → Bits xs → sum xs ≡ ones xs
unfolding ones
bits_sum [] b = refl
bits_sum (x ∷ xs) b =
    ⊎_elim
    (λ (e : x ≡ 0). rw e (bits_sum xs (λ i. b (suc i))))
    (λ (e : x ≡ 1). rw e (omega (arith, sum_by_from (λ (y : ℕ). y) 1 xs, bits_sum xs (λ i. b (suc i)))))
    (bit_cases x (b 0))

-- every part of a list of bits has bits
pub part_bits : (xs : List ℕ) (from n : ℕ) → Bits xs → Bits (take n (drop from xs))
part_bits xs from n b i =
    ⊎_elim (λ l. omega (arith, get_or-take n (drop from xs) i 0 l, get_or-drop from xs i 0, b (from + i)))
    (λ l. omega (arith, length-take n (drop from xs), get_or-eq_default (take n (drop from xs)) 0 {n = i} (omega (arith, length-take n (drop from xs)))))
    (below_or_not i n)

-- the rows from `row` on: first that row, then the rest
rows_step : (d row rows : ℕ) (xs : List ℕ) → row < rows → rows_of d (rows - row) xs ≡ take d xs ∷ rows_of d (rows - suc row) (drop d xs)
unfolding rows_of
rows_step d row rows xs h = ap (λ (n : ℕ). rows_of d n xs) {x = rows - row} {y = suc (rows - suc row)} (omega arith)

bad_step : (d row rows : ℕ) (xs : List ℕ) → row < rows →
    first_bad_row row (rows_of d (rows - row) xs)
    ≡ cond (eqb (ones (take d xs)) 1) (first_bad_row (suc row) (rows_of d (rows - suc row) (drop d xs))) (Some row)
unfolding first_bad_row
bad_step d row rows xs h = ap (first_bad_row row) (rows_step d row rows xs h)

pub bad_here : (d row rows : ℕ) (xs : List ℕ) → row < rows → (ones (take d xs) ≡ 1 → ⊥)
    → first_bad_row row (rows_of d (rows - row) xs) ≡ Some row
bad_here d row rows xs h e =
    bad_step d row rows xs h
    ∙ ap (λ (t : Bool). cond t (first_bad_row (suc row) (rows_of d (rows - suc row) (drop d xs))) (Some row)) (ne_eqb (ones (take d xs)) 1 e)

pub bad_later : (d row rows : ℕ) (xs : List ℕ) → row < rows → ones (take d xs) ≡ 1 →
    first_bad_row row (rows_of d (rows - row) xs) ≡ first_bad_row (suc row) (rows_of d (rows - suc row) (drop d xs))
bad_later d row rows xs h e =
    bad_step d row rows xs h
    ∙ ap (λ (t : Bool). cond t (first_bad_row (suc row) (rows_of d (rows - suc row) (drop d xs))) (Some row)) (eq-eqb (ones (take d xs)) 1 e)

pub bad_end : (d row rows : ℕ) (xs : List ℕ) → rows ≤ row → first_bad_row row (rows_of d (rows - row) xs) ≡ None
unfolding first_bad_row rows_of
bad_end d row rows xs h = ap (λ (n : ℕ). first_bad_row row (rows_of d n xs)) {x = rows - row} {y = 0} (omega arith)

-- the answer of the tests of ballots, from the outcomes of test 4, of test 5, and of those of the shape's kind
unfoldable pub judged : Bool → prelude.Option ℕ → Option Reason → Option Reason
judged size byte kind = first_of (unless size 4 ∷ found_at 5 byte ∷ kind ∷ [])

first_last : (os : List (Option Reason)) → first_of os ≡ first_of (first_of os ∷ [])
unfolding first_of
first_last [] = refl
first_last (none ∷ os) = first_last os
first_last (some r ∷ os) = refl

first_both : (o p : Option Reason) (os : List (Option Reason)) → first_of (o ∷ p ∷ os) ≡ first_of (o ∷ p ∷ first_of os ∷ [])
unfolding first_of
first_both none none os = first_last os
first_both none (some r) os = refl
first_both (some r) p os = refl

pub judged_by : (s : Shape) (xs : List ℕ) (size : Bool) (byte : prelude.Option ℕ) (kind : Option Reason) →
    eqb (length xs) (ballot_bytes s) ≡ size → first_above_one 0 xs ≡ byte → first_of (ballot_kind_reasons s xs) ≡ kind →
    first_of (ballot_reasons s xs) ≡ judged size byte kind
unfolding judged ballot_reasons
judged_by s xs size byte kind e₁ e₂ e₃ =
    first_both (unless (eqb (length xs) (ballot_bytes s)) 4) (found_at 5 (first_above_one 0 xs))
    (ballot_kind_reasons s xs)
    ∙ ap (λ (t : Bool). judged t (first_above_one 0 xs) (first_of (ballot_kind_reasons s xs))) e₁
    ∙ ap (λ (p : prelude.Option ℕ). judged size p (first_of (ballot_kind_reasons s xs))) e₂
    ∙ ap (λ (o : Option Reason). judged size byte o) e₃

pub graded_reasons_lem : (s : Shape) (xs : List ℕ) → is_ranking s ≡ false → ballot_kind_reasons s xs ≡ graded_reasons s xs
unfolding ballot_kind_reasons
graded_reasons_lem s xs e = ap (λ (t : Bool). cond t (ranked_reasons s xs) (graded_reasons s xs)) e

pub ranked_reasons_lem : (s : Shape) (xs : List ℕ) → is_ranking s ≡ true → ballot_kind_reasons s xs ≡ ranked_reasons s xs
unfolding ballot_kind_reasons
ranked_reasons_lem s xs e = ap (λ (t : Bool). cond t (ranked_reasons s xs) (graded_reasons s xs)) e

pub judged_kind : (kind : Option Reason) → judged true None kind ≡ kind
unfolding judged unless found_at first_of
judged_kind none = refl
judged_kind (some r) = refl

-- what the tests of rankings answer, from what their searches find
pub found_11 : (s : Shape) (xs : List ℕ) (i : ℕ) → first_not_asymmetric s.candidates s.ballots xs ≡ Some i
    → first_of (ranked_reasons s xs) ≡ some (reason_of (NotAsymmetric i))
unfolding ranked_reasons found_at first_of reason_of reason_at
found_11 s xs i e = rw e refl

pub found_12 : (s : Shape) (xs : List ℕ) (b : ℕ) → first_not_asymmetric s.candidates s.ballots xs ≡ None
    → first_not_weak_order s.candidates s.ballots xs ≡ Some b → first_of (ranked_reasons s xs) ≡ some (reason_of (NotWeakOrder b))
unfolding ranked_reasons found_at first_of reason_of reason_at
found_12 s xs b e f = rw (e, f) refl

pub found_none : (s : Shape) (xs : List ℕ) → first_not_asymmetric s.candidates s.ballots xs ≡ None
    → first_not_weak_order s.candidates s.ballots xs ≡ None → first_of (ranked_reasons s xs) ≡ none
unfolding ranked_reasons found_at first_of
found_none s xs e f = rw (e, f) refl

pub orders_none : (s : Shape) (xs : List ℕ) → ((b : ℕ) → b < s.ballots → StrictWeakOrder s.candidates (before s.candidates xs b))
    → first_of (ranked_reasons s xs) ≡ none
orders_none s xs o = let none = (passes_orders s.candidates s.ballots xs).1 o in found_none s xs none.0 none.1

pub ruleset ranked_found = (found_11, found_12, found_none, orders_none)

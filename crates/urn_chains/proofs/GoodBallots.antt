-- The tests of a juror's number and of a juror's ballot.
-- Assumes nothing.
use mathlib.Core.Path.{◌≡◌, ◌∙◌, refl, sym, ap}
use mathlib.Core.Bool.{Bool, true, false, ◌&&◌}
use mathlib.Core.Option.{Option, none, some}
use mathlib.Core.List.{List}
use Prim.Native.Nat.{ℕ, ◌*◌, ◌<◌}
use native.Mathlib.Nat.{one-mul}
use native.Mathlib.Omega.{arith}
use lib.Dec.{T, leb, eqb}
use lib.ListN.{length}
use borrow.Author.Tests.{le-leb, lt-leb, leb-true, eq-eqb}
use Rattle.jury.specs.declared.shape.Shape.{Shape}
use Rattle.jury.specs.Shape.{graded_limits}
use Rattle.std.specs.Prelude.{Result, Ok, Err}
use Rattle.std.specs.Result.{is_ok}
use Rattle.jury.specs.declared.reason.Refusal.{Refusal}
use Rattle.jury.specs.Reason.{Reason, refused_for, first_of}
use Rattle.jury.specs.Ballots.{ballot_reasons}
use Rattle.basics.proofs.Flags.{and_second, and_both, and_second_fails, T_true}
use Rattle.jury.proofs.Limits.{within_T, graded_within, bytes_are}
use Rattle.jury.proofs.AcceptedLaws.{accepted}
use Rattle.urn_chains.specs.Sound.{jury_of_one, no_reason, good_ballot, good_juror}

pub no_juror : (j : ℕ) → j ≡ 0 → good_juror j ≡ false
unfolding good_juror
no_juror j e = ap (λ (t : Bool). t && leb j 255) (lt-leb 1 j (omega arith))

pub some_juror : (j : ℕ) → (j ≡ 0 → ⊥) → j < 256 → good_juror j ≡ true
unfolding good_juror
some_juror j n h = and_both (leb 1 j) (leb j 255) (le-leb 1 j (omega arith)) (le-leb j 255 (omega arith))

pub juror_most : (j : ℕ) → good_juror j ≡ true → j < 256
unfolding good_juror
juror_most j e = let l = leb-true j 255 (and_second (leb 1 j) (leb j 255) e) in omega arith

-- for a graded jury, a ballot that passes its tests has the right length
pub no_reason_lem : (o : Option Reason) → no_reason o ≡ true → o ≡ none
unfolding no_reason
no_reason_lem none e = refl
no_reason_lem (some r) e = let z : ◌≡◌ {A = ℕ} 0 1 = cc in absurd (omega arith)

pub good_graded : (k d : ℕ) (xs : List ℕ) → T (graded_limits (jury_of_one k d)) → good_ballot k d xs
    ≡ no_reason (first_of (ballot_reasons (jury_of_one k d) xs))
unfolding good_ballot
good_graded k d xs h = by (no_reason o) refl
  where
    s : Shape
    s = jury_of_one k d

    o : Option Reason
    o = first_of (ballot_reasons (jury_of_one k d) xs)

    long : no_reason o ≡ true → length xs ≡ k * d
    long e =
        (accepted s xs (graded_within s (T_true (graded_limits s) h)) (no_reason_lem o e)).size
        ∙ bytes_are s (within_T s h) ∙ unfold jury_of_one in (ap (λ (m : ℕ). m * d) (one-mul k))

    by : (t : Bool) → no_reason o ≡ t → (eqb (length xs) (k * d) && no_reason o) ≡ no_reason o
    by true e = and_both (eqb (length xs) (k * d)) (no_reason o) (eq-eqb (length xs) (k * d) (long e)) e ∙ sym e
    by false e = and_second_fails (eqb (length xs) (k * d)) (no_reason o) e ∙ sym e

-- no reason was found exactly if the test answers Ok
pub passed_is_ok : (r : Result (Unit {0}) Refusal) → no_reason (refused_for r) ≡ is_ok r
unfolding refused_for no_reason
passed_is_ok (Ok u) = refl
passed_is_ok (Err e) = refl

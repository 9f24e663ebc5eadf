-- Lists of tests, one test at a time, and what a call answers and leaves, given its first reason.
-- Assumes nothing.
use mathlib.Core.Path.{◌≡◌, ◌∙◌, refl, sym, ap}
use mathlib.Core.Bool.{Bool, true, false, ◌&&◌}
use mathlib.Core.Option.{Option, none, some}
use mathlib.Core.List.{List, [], ◌∷◌, ◌++◌}
use Prim.Native.Nat.{ℕ}
use native.Mathlib.Omega.{arith}
use Rattle.jury.specs.Reason.{Reason, reason_at, unless, first_of}
use Rattle.tally.specs.Answer.{Outcome, refused, accepted, outcome, Size, afterwards}
use Rattle.tally.proofs.TestReasons.{or_else, first_append}
use Rattle.trustee_alone.specs.Own.{OwnResult}
use Rattle.trustee_alone.specs.Finish.{FinishResult}

-- the first reason, if the first test passes or fails
pub pass : (b : Bool) (n : ℕ) (rest : List (Option Reason)) → b ≡ true → first_of (unless b n ∷ rest) ≡ first_of rest
unfolding unless first_of
pass b n rest e = rw e

pub fail : (b : Bool) (n : ℕ) (rest : List (Option Reason)) → b ≡ false → first_of (unless b n ∷ rest) ≡ some (reason_at n 0)
unfolding unless first_of
fail b n rest e = rw e

pub passed : (b : Bool) (n : ℕ) (rest : List (Option Reason)) → first_of (unless b n ∷ rest) ≡ none → (b ≡ true) × (first_of rest ≡ none)
unfolding unless first_of
passed true n rest e = (refl, e)
passed false n rest e = let z : ◌≡◌ {A = ℕ} 0 1 = cc in absurd (omega arith)

pub end : first_of [] ≡ none
end = unfold first_of in refl

-- the first reason of two groups of tests
pub before : (xs ys : List (Option Reason)) (r : Reason) → first_of xs ≡ some r → first_of (xs ++ ys) ≡ some r
unfolding or_else
before xs ys r e = first_append xs ys ∙ ap (λ (o : Option Reason). or_else o (first_of ys)) e

pub behind : (xs ys : List (Option Reason)) → first_of xs ≡ none → first_of (xs ++ ys) ≡ first_of ys
unfolding or_else
behind xs ys e = first_append xs ys ∙ ap (λ (o : Option Reason). or_else o (first_of ys)) e

pub both_passed : (xs ys : List (Option Reason)) → first_of (xs ++ ys) ≡ none → (first_of xs ≡ none) × (first_of ys ≡ none)
unfolding or_else
both_passed xs ys e = go (first_of xs) refl
  where
    go : (o : Option Reason) → first_of xs ≡ o → (first_of xs ≡ none) × (first_of ys ≡ none)
    go none f = (f, sym (ap (λ (o : Option Reason). or_else o (first_of ys)) f) ∙ sym (first_append xs ys) ∙ e)
    go (some r) f = let q : some r ≡ none = sym (ap (λ (o : Option Reason). or_else o (first_of ys)) f)
        ∙ sym (first_append xs ys) ∙ e in let z : ◌≡◌ {A = ℕ} 0 1 = cc in absurd (omega arith)

-- tests with two conditions
pub and_both : (a b c : Bool) → a ≡ true → b ≡ c → (a && b) ≡ c
and_both a b c e f = rw (e, f) refl

-- what a call answers and leaves
pub outcome_some : {A : Type 0} (o : Option Reason) (v : A) (r : Reason) → o ≡ some r → refused r ≡ outcome o v
unfolding outcome
outcome_some o v r e = rw e

pub outcome_none : {A : Type 0} (o : Option Reason) (v w : A) → o ≡ none → w ≡ v → accepted w ≡ outcome o v
unfolding outcome
outcome_none o v w e f = rw (e, f)

pub left_old : (o : Option Reason) (new old : List ℕ) (r : Reason) → o ≡ some r → old ≡ afterwards o new old
unfolding afterwards
left_old o new old r e = rw e

pub left_new : (o : Option Reason) (new old : List ℕ) → o ≡ none → new ≡ afterwards o new old
unfolding afterwards
left_new o new old e = rw e

-- two results are equal if their three parts are
pub same_own : {Values : Type 0} {a a' : Outcome Values} {w w' q q' : List ℕ} → a ≡ a' → w ≡ w' → q ≡ q'
    → ◌≡◌ {A = OwnResult Values} (record { answer = a; wires = w; published = q }) (record { answer = a'; wires = w'; published = q' })
same_own e f g = rw (e, f, g) refl

pub same_finish : {a a' : Outcome Size} {w w' : List ℕ} → a ≡ a' → w ≡ w'
    → ◌≡◌ {A = FinishResult} (record { answer = a; wires = w }) (record { answer = a'; wires = w' })
same_finish e f = rw (e, f) refl

-- The answers to an admission and to a withdrawal, from the outcomes of their tests.
-- Assumes nothing.
use mathlib.Core.Path.{◌≡◌, ◌∙◌, refl, sym, ap}
use mathlib.Core.Bool.{Bool, true, false, not, ◌&&◌}
use mathlib.Core.Option.{Option, none, some}
use mathlib.Core.List.{List, [], ◌∷◌, ◌++◌}
use Prim.Native.Nat.{ℕ}
use native.Mathlib.Omega.{arith}
use Rattle.basics.proofs.Flags.{true_T}
use Rattle.jury.specs.Reason.{Reason, reason_at, unless, first_of}
use Rattle.jury.specs.Ballots.{ballot_reasons}
use Rattle.tally.specs.Answer.{Outcome, refused, accepted, outcome, afterwards}
use Rattle.urn_chains.specs.Sound.{jury_of_one, good_juror, no_reason, good_ballot}
use Rattle.urn_chains.proofs.GoodBallots.{good_graded}
use Rattle.urn_chains.specs.Sound.{graded_shape}
use Rattle.urn.specs.Facts.{UrnResult, UrnFacts, sound_in, present_in, full_in}
use Rattle.urn.specs.Admit.{admit_reasons}
use Rattle.urn.specs.Withdraw.{withdraw_reasons}

pub admit_first : Bool → Bool → Bool → Option Reason → Bool → Option Reason
admit_first graded sound juror ballot free = first_of (unless graded 1 ∷ unless sound 13 ∷ unless juror 14 ∷ ballot ∷ unless free 15 ∷ [])

first_append : (rs : List (Option Reason)) (x : Option Reason) → first_of (rs ++ (x ∷ [])) ≡ first_of (first_of rs ∷ x ∷ [])
unfolding first_of
first_append [] x = refl
first_append (none ∷ rs) x = first_append rs x
first_append (some r ∷ rs) x = refl

first_cons : (x : Option Reason) (xs ys : List (Option Reason)) → first_of xs ≡ first_of ys → first_of (x ∷ xs) ≡ first_of (x ∷ ys)
unfolding first_of
first_cons none xs ys e = e
first_cons (some r) xs ys e = refl

pub admit_first_lem : (k d : ℕ) (f : UrnFacts) (j : ℕ) (x : List ℕ) →
    first_of (admit_reasons k d f j x)
    ≡ admit_first (graded_shape k d) (sound_in f) (good_juror j && not (present_in f))
    (first_of (ballot_reasons (jury_of_one k d) x)) (not (full_in f))
unfolding admit_reasons admit_first
admit_first_lem k d f j x =
    first_cons (unless (graded_shape k d) 1) _ _
    (first_cons (unless (sound_in f) 13) _ _
    (first_cons (unless (good_juror j && not (present_in f)) 14) _ _
    (first_append (ballot_reasons (jury_of_one k d) x) (unless (not (full_in f)) 15))))

-- The tests that an accepted admission has passed, as facts.
pub record Passed (k d : ℕ) (f : UrnFacts) (j : ℕ) (x : List ℕ) : Type 0 where
  pub graded : graded_shape k d ≡ true
  pub is_sound : sound_in f ≡ true
  pub juror : (good_juror j && not (present_in f)) ≡ true
  pub ballot : good_ballot k d x ≡ true
  pub free : not (full_in f) ≡ true

passed : (a b c : Bool) (o : Option Reason) (g : Bool) → admit_first a b c o g ≡ none → (a ≡ true) × (b ≡ true)
    × (c ≡ true) × (no_reason o ≡ true) × (g ≡ true)
unfolding admit_first first_of unless no_reason
passed false b c o g h = let z : ◌≡◌ {A = ℕ} 0 1 = cc in absurd (omega arith)
passed true false c o g h = let z : ◌≡◌ {A = ℕ} 0 1 = cc in absurd (omega arith)
passed true true false o g h = let z : ◌≡◌ {A = ℕ} 0 1 = cc in absurd (omega arith)
passed true true true (some r) g h = let z : ◌≡◌ {A = ℕ} 0 1 = cc in absurd (omega arith)
passed true true true none false h = let z : ◌≡◌ {A = ℕ} 0 1 = cc in absurd (omega arith)
passed true true true none true h = (refl, refl, refl, refl, refl)

pub admissible : (k d : ℕ) (f : UrnFacts) (j : ℕ) (x : List ℕ) → first_of (admit_reasons k d f j x) ≡ none → Passed k d f j x
admissible k d f j x e =
    let p = passed (graded_shape k d) (sound_in f) (good_juror j && not (present_in f))
    (first_of (ballot_reasons (jury_of_one k d) x)) (not (full_in f)) (sym (admit_first_lem k d f j x) ∙ e) in
    record { graded = p.0; is_sound = p.1; juror = p.2; ballot = good_graded k d x (true_T (graded_shape k d) p.0) ∙ p.3; free = p.4 }

pub withdraw_first : Bool → Bool → Bool → Option Reason
withdraw_first graded sound juror = first_of (unless graded 1 ∷ unless sound 13 ∷ unless juror 14 ∷ [])

-- The tests that an accepted withdrawal has passed, as facts.
pub record Withdrawable (k d : ℕ) (f : UrnFacts) (j : ℕ) : Type 0 where
  pub graded : graded_shape k d ≡ true
  pub is_sound : sound_in f ≡ true
  pub juror : (good_juror j && present_in f) ≡ true

let_out : (a b c : Bool) → withdraw_first a b c ≡ none → (a ≡ true) × (b ≡ true) × (c ≡ true)
unfolding withdraw_first first_of unless
let_out false b c h = let z : ◌≡◌ {A = ℕ} 0 1 = cc in absurd (omega arith)
let_out true false c h = let z : ◌≡◌ {A = ℕ} 0 1 = cc in absurd (omega arith)
let_out true true false h = let z : ◌≡◌ {A = ℕ} 0 1 = cc in absurd (omega arith)
let_out true true true h = (refl, refl, refl)

pub withdrawable : (k d : ℕ) (f : UrnFacts) (j : ℕ) → first_of (withdraw_reasons k d f j) ≡ none → Withdrawable k d f j
unfolding withdraw_reasons withdraw_first
withdrawable k d f j e =
    let p = let_out (graded_shape k d) (sound_in f) (good_juror j && present_in f) e in
    record { graded = p.0; is_sound = p.1; juror = p.2 }

-- if the answer is accepted, no reason applies
pub accepted_none : (o : Option Reason) (v m : ℕ) → outcome o v ≡ accepted m → o ≡ none
unfolding outcome
accepted_none none v m e = refl
accepted_none (some r) v m e = let z : ◌≡◌ {A = ℕ} 0 1 = cc in absurd (omega arith)

pub refused_kept : (o : Option Reason) (v : ℕ) (r : Reason) (new old : List ℕ) → outcome o v ≡ refused r → afterwards o new old ≡ old
unfolding outcome afterwards
refused_kept none v r new old e = let z : ◌≡◌ {A = ℕ} 0 1 = cc in absurd (omega arith)
refused_kept (some q) v r new old e = refl

pub none_new : (o : Option Reason) (new old : List ℕ) → o ≡ none → afterwards o new old ≡ new
unfolding afterwards
none_new o new old e = ap (λ (p : Option Reason). afterwards p new old) e

pub some_old : (o : Option Reason) (r : Reason) (new old : List ℕ) → o ≡ some r → old ≡ afterwards o new old
unfolding afterwards
some_old o r new old e = ap (λ (p : Option Reason). afterwards p new old) (sym e)

-- the first reason of an admission, given the first test that fails
module _ (a b c : Bool) (o : Option Reason) (g : Bool) where
  pub admit_1 : a ≡ false → admit_first a b c o g ≡ some (reason_at 1 0)
  unfolding admit_first first_of unless
  admit_1 h = rw h

  pub admit_13 : a ≡ true → b ≡ false → admit_first a b c o g ≡ some (reason_at 13 0)
  unfolding admit_first first_of unless
  admit_13 h i = rw (h, i)

  pub admit_14 : a ≡ true → b ≡ true → c ≡ false → admit_first a b c o g ≡ some (reason_at 14 0)
  unfolding admit_first first_of unless
  admit_14 h i j = rw (h, i, j)

  pub admit_ballot : (r : Reason) → a ≡ true → b ≡ true → c ≡ true → o ≡ some r → admit_first a b c o g ≡ some r
  unfolding admit_first first_of unless
  admit_ballot r h i j l = rw (h, i, j, l)

  pub admit_15 : a ≡ true → b ≡ true → c ≡ true → o ≡ none → g ≡ false → admit_first a b c o g ≡ some (reason_at 15 0)
  unfolding admit_first first_of unless
  admit_15 h i j l m = rw (h, i, j, l, m)

  pub admit_none : a ≡ true → b ≡ true → c ≡ true → o ≡ none → g ≡ true → admit_first a b c o g ≡ none
  unfolding admit_first first_of unless
  admit_none h i j l m = rw (h, i, j, l, m)

pub outcome_refused : (o : Option Reason) (v : ℕ) (r : Reason) → o ≡ some r → refused r ≡ outcome o v
unfolding outcome
outcome_refused o v r e = ap (λ (p : Option Reason). outcome p v) (sym e)

pub outcome_accepted : (o : Option Reason) (v : ℕ) → o ≡ none → accepted v ≡ outcome o v
unfolding outcome
outcome_accepted o v e = ap (λ (p : Option Reason). outcome p v) (sym e)

pub juror_present : (t p : Bool) → t ≡ true → p ≡ true → (t && not p) ≡ false
juror_present t p h i = rw (h, i)

pub juror_absent : (t p : Bool) → t ≡ true → p ≡ false → (t && not p) ≡ true
juror_absent t p h i = rw (h, i)

pub juror_gone : (t p : Bool) → t ≡ true → p ≡ false → (t && p) ≡ false
juror_gone t p h i = rw (h, i)

-- the first reason of a withdrawal, given the first test that fails
module _ (a b c : Bool) where
  pub withdraw_1 : a ≡ false → withdraw_first a b c ≡ some (reason_at 1 0)
  unfolding withdraw_first first_of unless
  withdraw_1 h = rw h

  pub withdraw_13 : a ≡ true → b ≡ false → withdraw_first a b c ≡ some (reason_at 13 0)
  unfolding withdraw_first first_of unless
  withdraw_13 h i = rw (h, i)

  pub withdraw_14 : a ≡ true → b ≡ true → c ≡ false → withdraw_first a b c ≡ some (reason_at 14 0)
  unfolding withdraw_first first_of unless
  withdraw_14 h i j = rw (h, i, j)

  pub withdraw_none : a ≡ true → b ≡ true → c ≡ true → withdraw_first a b c ≡ none
  unfolding withdraw_first first_of unless
  withdraw_none h i j = rw (h, i, j)

pub withdraw_first_lem : (k d : ℕ) (f : UrnFacts) (j : ℕ) → first_of (withdraw_reasons k d f j)
    ≡ withdraw_first (graded_shape k d) (sound_in f) (good_juror j && present_in f)
unfolding withdraw_reasons withdraw_first
withdraw_first_lem k d f j = refl

-- two results are equal if their answers and their urns are
pub both_parts : {a b : Outcome ℕ} {u v : List ℕ} → a ≡ b → u ≡ v
    → ◌≡◌ {A = UrnResult} (record { answer = a; urn = u }) (record { answer = b; urn = v })
both_parts e f = cc

-- The memory demand holds for the urn.
-- Assumes nothing.
use mathlib.Core.Path.{◌≡◌, refl, sym, subst}
use mathlib.Core.Bool.{Bool, true, false}
use mathlib.Core.Option.{Option, none, some}
use mathlib.Core.List.{List, [], ◌∷◌}
use Prim.Native.Nat.{ℕ, ◌+◌, ◌-◌}
use lib.Dec.{T}
use lib.ListN.{length}
use Rattle.basics.specs.Lists.{all, member}
use Rattle.jury.specs.declared.shape.Shape.{Shape}
use Rattle.jury.specs.Reason.{Reason, reason_at, unless, first_of}
use Rattle.jury.specs.Shape.{is_ranking}
use Rattle.jury.specs.Ballots.{graded_reasons, ballot_reasons}
use Rattle.jury.proofs.BallotLaws.{graded_reasons_lem}
use Rattle.jury.proofs.Limits.{within, graded_is}
use Rattle.tally.specs.Answer.{Outcome, refused, accepted, outcome, has_number_in, afterwards}
use Rattle.tally.specs.Memory.{Each, KeepsMemory}
use Rattle.tally.proofs.RunReasons.{outcome_refused}
use Rattle.tally.proofs.Numbering.{All, Fine, first_fine, refused_number, both, unless_fine, wider, graded_all, ballots_from}
use Rattle.urn_chains.specs.Sound.{jury_of_one}
use Rattle.urn_chains.specs.Sound.{graded_shape}
use Rattle.urn.specs.Facts.{facts_of, UrnFacts, ballots_in}
use Rattle.urn.specs.Admit.{admit_reasons, admit_reason_numbers, admit_outcome_by, admitted}
use Rattle.urn.specs.Withdraw.{withdraw_reasons, withdraw_reason_numbers, withdraw_outcome_by, withdrawn}
use Rattle.urn.specs.Empty.{empty_reasons, empty_reason_numbers, empty_outcome, emptied}
use Rattle.urn.specs.Memory.{UrnMemory}
use Rattle.urn.proofs.Outcomes.{refused_kept}
use Rattle.urn.proofs.UrnTheorems.{urn_holds}

-- the reasons of graded ballots are 4, 5 and 6
ballots_fine : (s : Shape) (xs : List ℕ) → is_ranking s ≡ false → All admit_reason_numbers (ballot_reasons s xs)
unfolding all member reason_at
ballots_fine s xs graded =
    ballots_from admit_reason_numbers tt s xs
    (subst (All admit_reason_numbers) (sym (graded_reasons_lem s xs graded)) (wider (6 ∷ []) admit_reason_numbers tt (graded_reasons s xs) (graded_all s xs)))

admit_fine : (k d : ℕ) (f : UrnFacts) (j : ℕ) (x : List ℕ) → graded_shape k d ≡ true → All admit_reason_numbers (admit_reasons k d f j x)
unfolding All admit_reasons member reason_at
admit_fine k d f j x e =
    let ns = admit_reason_numbers in (
      unless_fine ns _ 1 tt,
      (
        unless_fine ns _ 13 tt,
        (
          unless_fine ns _ 14 tt,
          both ns (ballot_reasons (jury_of_one k d) x) _
              (ballots_fine (jury_of_one k d) x (graded_is (jury_of_one k d) (within (jury_of_one k d) e)))
              (unless_fine ns _ 15 tt, tt),
        ),
      ),
    )

-- if the shape is not that of a graded jury, the reason is 1
first_of_lem : (t : Bool) (rest : List (Option Reason)) → t ≡ false → Fine admit_reason_numbers (first_of (unless t 1 ∷ rest))
unfolding Fine member reason_at unless first_of
first_of_lem t rest e = subst (λ (t : Bool). Fine admit_reason_numbers (first_of (unless t 1 ∷ rest))) (sym e) tt

admit_first_lem : (k d : ℕ) (f : UrnFacts) (j : ℕ) (x : List ℕ) (t : Bool) → graded_shape k d ≡ t
    → Fine admit_reason_numbers (first_of (admit_reasons k d f j x))
unfolding admit_reasons
admit_first_lem k d f j x false e = first_of_lem (graded_shape k d) _ e
admit_first_lem k d f j x true e = first_fine admit_reason_numbers (admit_reasons k d f j x) (admit_fine k d f j x e)

admit_numbered : (k d : ℕ) (f : UrnFacts) (j : ℕ) (x : List ℕ) (r : Reason) → admit_outcome_by k d f j x ≡ refused r
    → T (has_number_in admit_reason_numbers r)
unfolding admit_outcome_by Fine
admit_numbered k d f j x r e =
    subst (Fine admit_reason_numbers) (outcome_refused (first_of (admit_reasons k d f j x)) (ballots_in f + 1) r e)
    (admit_first_lem k d f j x (graded_shape k d) refl)

withdraw_numbered : (k d : ℕ) (f : UrnFacts) (j : ℕ) (r : Reason) → withdraw_outcome_by k d f j ≡ refused r → T (has_number_in withdraw_reason_numbers r)
unfolding withdraw_outcome_by withdraw_reasons All member reason_at
withdraw_numbered k d f j =
    let ns = withdraw_reason_numbers in
    refused_number ns (withdraw_reasons k d f j) (ballots_in f - 1)
    (unless_fine ns _ 1 tt, (unless_fine ns _ 13 tt, (unless_fine ns _ 14 tt, tt)))

empty_numbered : (k d : ℕ) (table : List ℕ) (r : Reason) → empty_outcome k d table ≡ refused r → T (has_number_in empty_reason_numbers r)
unfolding empty_outcome empty_reasons All member reason_at
empty_numbered k d table =
    let ns = empty_reason_numbers in
    refused_number ns (empty_reasons k d table) 0 (unless_fine ns _ 1 tt, (unless_fine ns _ 13 tt, tt))

-- the length is the same after a refusal and after an accepted call
kept : (o : Option Reason) (v : ℕ) (new old : List ℕ)
    → ((count : ℕ) → outcome o v ≡ accepted count → length (afterwards o new old) ≡ length old)
    → length (afterwards o new old) ≡ length old
unfolding outcome afterwards
kept none v new old f = f v refl
kept (some r) v new old f = refl

-- a call that is lent an urn, and one that is lent nothing to write to
lent_urn : (numbers : List ℕ) (o : Option Reason) (v : ℕ) (new old : List ℕ)
    → ((r : Reason) → outcome o v ≡ refused r → T (has_number_in numbers r))
    → length (afterwards o new old) ≡ length old
    → KeepsMemory numbers (outcome o v) (record { before = old; after = afterwards o new old } ∷ []) []
unfolding Each
lent_urn numbers o v new old fine size =
    record {
      number = fine;
      refusal = λ r e. (refused_kept o v r new old e, tt);
      empties = λ values e. tt;
      lengths = (size, tt);
    }

lent_nothing : (numbers : List ℕ) (answer : Outcome ℕ)
    → ((r : Reason) → answer ≡ refused r → T (has_number_in numbers r)) → KeepsMemory numbers answer [] []
unfolding Each
lent_nothing numbers answer fine = record { number = fine; refusal = λ r e. tt; empties = λ values e. tt; lengths = tt }

pub urn_memory : UrnMemory
unfolding admit_outcome_by admitted withdraw_outcome_by withdrawn empty_outcome emptied
urn_memory =
    record {
      empty = λ k d table.
          let o = first_of (empty_reasons k d table) in
          lent_urn empty_reason_numbers o 0 _ table (empty_numbered k d table)
          (kept o 0 _ table (λ count h. (urn_holds.emptying k d table count h).same_length));
      admit = λ k d urn j x.
          let f = facts_of k d urn j in
          let o = first_of (admit_reasons k d f j x) in
          lent_urn admit_reason_numbers o (ballots_in f + 1) _ urn (admit_numbered k d f j x)
          (kept o (ballots_in f + 1) _ urn (λ count h. (urn_holds.admission k d urn j x count h).same_length));
      withdraw = λ k d urn j.
          let f = facts_of k d urn j in
          let o = first_of (withdraw_reasons k d f j) in
          lent_urn withdraw_reason_numbers o (ballots_in f - 1) _ urn (withdraw_numbered k d f j)
          (kept o (ballots_in f - 1) _ urn (λ count h. (urn_holds.withdrawal k d urn j count h).same_length));
      preview_admit = λ k d urn j x. lent_nothing admit_reason_numbers
          (admit_outcome_by k d (facts_of k d urn j) j x) (admit_numbered k d (facts_of k d urn j) j x);
      preview_withdraw = λ k d urn j. lent_nothing withdraw_reason_numbers (withdraw_outcome_by k d (facts_of k d urn j) j)
          (withdraw_numbered k d (facts_of k d urn j) j);
    }

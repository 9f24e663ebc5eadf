-- The reasons of an admission and of a withdrawal come in the order that `UrnOrder` says.
-- Assumes nothing.
use mathlib.Core.Path.{◌≡◌, ◌∙◌, sym, ap}
use mathlib.Core.Bool.{Bool, true, false, not, ◌&&◌}
use mathlib.Core.Option.{Option, some}
use mathlib.Core.List.{List}
use Prim.Native.Nat.{ℕ, ◌+◌, ◌-◌}
use lib.ListN.{length}
use Rattle.basics.specs.Lists.{member}
use Rattle.basics.proofs.Flags.{and_both, and_first_fails, and_second_fails}
use Rattle.jury.specs.Reason.{Reason, first_of}
use Rattle.jury.specs.Ballots.{ballot_reasons}
use Rattle.tally.specs.Answer.{refused, accepted}
use Rattle.urn_chains.specs.Sound.{jury_of_one, graded_shape, good_juror, sound, entries_of, free_of}
use Rattle.std.specs.Prelude.{Some}
use Rattle.urn.specs.Facts.{is_empty, jurors_of, facts_of, UrnFacts, sound_in, ballots_in, present_in, full_in}
use Rattle.urn.specs.Admit.{admit_reasons, admit_outcome_by, admit_outcome}
use Rattle.urn.specs.Withdraw.{withdraw_reasons, withdraw_outcome_by, withdraw_outcome}
use Rattle.urn.specs.Order.{NewJuror, AdmitOrder, WithdrawOrder, UrnOrder}
use Rattle.urn.proofs.Outcomes.{admit_first, admit_first_lem, admit_1, admit_13, admit_14, admit_ballot, admit_15, admit_none}
use Rattle.urn.proofs.Outcomes.{withdraw_first_lem, withdraw_1, withdraw_13, withdraw_14, withdraw_none}
use Rattle.urn.proofs.Outcomes.{juror_absent, outcome_refused, outcome_accepted}
use Rattle.urn.proofs.FactLaws.{no_facts}

-- the facts about a sound urn
sound_facts : (k d : ℕ) (urn : List ℕ) (j : ℕ) → sound k d urn ≡ true → facts_of k d urn j
    ≡ Some (record {
      ballots = length (entries_of k d urn);
      present = member j (jurors_of (entries_of k d urn));
      full = is_empty (free_of k d urn);
    })
unfolding facts_of
sound_facts k d urn j e = rw e

module _ (k d : ℕ) (urn : List ℕ) (j : ℕ) where
  f : UrnFacts
  f = facts_of k d urn j

  is_sound : sound k d urn ≡ true → sound_in f ≡ true
  unfolding f
  is_sound e = ap (λ (g : UrnFacts). sound_in g) (sound_facts k d urn j e)

  not_sound : sound k d urn ≡ false → sound_in f ≡ false
  unfolding f
  not_sound e = ap (λ (g : UrnFacts). sound_in g) (no_facts k d urn j e)

  is_present : (b : Bool) → sound k d urn ≡ true → member j (jurors_of (entries_of k d urn)) ≡ b → present_in f ≡ b
  unfolding f
  is_present b e h = ap (λ (g : UrnFacts). present_in g) (sound_facts k d urn j e) ∙ h

  is_full : (b : Bool) → sound k d urn ≡ true → is_empty (free_of k d urn) ≡ b → full_in f ≡ b
  unfolding f
  is_full b e h = ap (λ (g : UrnFacts). full_in g) (sound_facts k d urn j e) ∙ h

  counted : sound k d urn ≡ true → ballots_in f ≡ length (entries_of k d urn)
  unfolding f
  counted e = ap (λ (g : UrnFacts). ballots_in g) (sound_facts k d urn j e)

  module _ (x : List ℕ) where
    o : Option Reason
    o = first_of (ballot_reasons (jury_of_one k d) x)

    first_is : first_of (admit_reasons k d f j x) ≡ admit_first (graded_shape k d) (sound_in f) (good_juror j && not (present_in f)) o (not (full_in f))
    unfolding o
    first_is = admit_first_lem k d f j x

    refuses : (r : Reason) → first_of (admit_reasons k d f j x) ≡ some r → admit_outcome k d urn j x ≡ refused r
    unfolding admit_outcome_by f
    refuses r e = sym (outcome_refused (first_of (admit_reasons k d f j x)) (ballots_in f + 1) r e)

    allowed : NewJuror k d urn j → (good_juror j && not (present_in f)) ≡ true
    allowed n = juror_absent (good_juror j) (present_in f) n.good (is_present false n.urn_sound.is_sound n.absent)

    admit_order : AdmitOrder k d urn j x
    unfolding admit_outcome_by f o
    admit_order =
        let a = graded_shape k d in
        let b = sound_in f in
        let c = good_juror j && not (present_in f) in
        let g = not (full_in f) in
        record {
          other_shape = λ h. refuses _ (first_is ∙ admit_1 a b c o g h);
          unsound = λ h e. refuses _ (first_is ∙ admit_13 a b c o g h (not_sound e));
          bad_juror = λ u h. refuses _
              (first_is ∙ admit_14 a b c o g u.graded (is_sound u.is_sound) (and_first_fails (good_juror j) (not (present_in f)) h));
          known_juror = λ u h. refuses _ (first_is ∙ admit_14 a b c o g u.graded (is_sound u.is_sound)
              (and_second_fails (good_juror j) (not (present_in f)) (ap not (is_present true u.is_sound h))));
          bad_ballot = λ r n e. refuses r
              (first_is ∙ admit_ballot a b c o g r n.urn_sound.graded (is_sound n.urn_sound.is_sound) (allowed n) e);
          no_free_slot = λ n e h. refuses _
              (first_is ∙ admit_15 a b c o g n.urn_sound.graded (is_sound n.urn_sound.is_sound) (allowed n) e
              (ap not (is_full true n.urn_sound.is_sound h)));
          accepts = λ n e h.
              sym (outcome_accepted (first_of (admit_reasons k d f j x)) (ballots_in f + 1)
              (first_is ∙ admit_none a b c o g n.urn_sound.graded (is_sound n.urn_sound.is_sound) (allowed n) e
              (ap not (is_full false n.urn_sound.is_sound h))))
              ∙ ap (λ (m : ℕ). accepted (m + 1)) (counted n.urn_sound.is_sound);
        }

  leaves : (r : Reason) → first_of (withdraw_reasons k d f j) ≡ some r → withdraw_outcome k d urn j ≡ refused r
  unfolding withdraw_outcome_by f
  leaves r e = sym (outcome_refused (first_of (withdraw_reasons k d f j)) (ballots_in f - 1) r e)

  withdraw_order : WithdrawOrder k d urn j
  unfolding withdraw_outcome_by f
  withdraw_order =
      let a = graded_shape k d in
      let b = sound_in f in
      let c = good_juror j && present_in f in
      let w = withdraw_first_lem k d f j in
      record {
        other_shape = λ h. leaves _ (w ∙ withdraw_1 a b c h);
        unsound = λ h e. leaves _ (w ∙ withdraw_13 a b c h (not_sound e));
        bad_juror = λ u h. leaves _
            (w ∙ withdraw_14 a b c u.graded (is_sound u.is_sound) (and_first_fails (good_juror j) (present_in f) h));
        no_ballot = λ u h. leaves _ (w ∙ withdraw_14 a b c u.graded (is_sound u.is_sound)
            (and_second_fails (good_juror j) (present_in f) (is_present false u.is_sound h)));
        accepts = λ u g h.
            sym (outcome_accepted (first_of (withdraw_reasons k d f j)) (ballots_in f - 1)
            (w ∙ withdraw_none a b c u.graded (is_sound u.is_sound)
            (and_both (good_juror j) (present_in f) g (is_present true u.is_sound h))))
            ∙ ap (λ (m : ℕ). accepted (m - 1)) (counted u.is_sound);
      }

pub urn_order : UrnOrder
urn_order = record { admit = admit_order; withdraw = withdraw_order }

-- The order of reasons in words: which reason an admission and a withdrawal answer. Every line holds whatever the
-- later tests would find, so the order is fixed here and not only by the list in the definition.
use Rattle.std.specs.Prelude.{◌≡◌, true, false, List, ℕ, ◌+◌, ◌-◌, length}
use Rattle.std.proofs.Math.Option.{none, some}
use Rattle.basics.specs.Lists.{member}
use Rattle.jury.specs.Reason.{Reason, reason_at, first_of}
use Rattle.jury.specs.Ballots.{ballot_reasons}
use Rattle.tally.specs.Answer.{refused, accepted}
use Rattle.urn_chains.specs.Sound.{jury_of_one, graded_shape, good_juror, sound, entries_of, free_of}
use Rattle.urn.specs.Facts.{is_empty, jurors_of}
use Rattle.urn.specs.Admit.{admit_outcome}
use Rattle.urn.specs.Withdraw.{withdraw_outcome}

-- The shape is graded, and the urn is sound.
pub record SoundUrn (k d : ℕ) (urn : List ℕ) : Type 0 where
  pub graded : graded_shape k d ≡ true
  pub is_sound : sound k d urn ≡ true

-- Also the juror's number is good, and no ballot of the juror is in the urn.
pub record NewJuror (k d : ℕ) (urn : List ℕ) (juror : ℕ) : Type 0 where
  pub urn_sound : SoundUrn k d urn
  pub good : good_juror juror ≡ true
  pub absent : member juror (jurors_of (entries_of k d urn)) ≡ false

pub record AdmitOrder (k d : ℕ) (urn : List ℕ) (juror : ℕ) (ballot : List ℕ) : Type 0 where
  -- 1 comes first, then 13
  pub other_shape : graded_shape k d ≡ false → admit_outcome k d urn juror ballot ≡ refused (reason_at 1 0)
  pub unsound : graded_shape k d ≡ true → sound k d urn ≡ false
      → admit_outcome k d urn juror ballot ≡ refused (reason_at 13 0)
  -- then 14, for a bad number and for a juror whose ballot is in the urn
  pub bad_juror : SoundUrn k d urn → good_juror juror ≡ false
      → admit_outcome k d urn juror ballot ≡ refused (reason_at 14 0)
  pub known_juror : SoundUrn k d urn → member juror (jurors_of (entries_of k d urn)) ≡ true
      → admit_outcome k d urn juror ballot ≡ refused (reason_at 14 0)
  -- then the first reason of the ballot, as in a jury of one
  pub bad_ballot : (r : Reason) → NewJuror k d urn juror
      → first_of (ballot_reasons (jury_of_one k d) ballot) ≡ some r → admit_outcome k d urn juror ballot ≡ refused r
  -- 15 comes last
  pub no_free_slot : NewJuror k d urn juror → first_of (ballot_reasons (jury_of_one k d) ballot) ≡ none
      → is_empty (free_of k d urn) ≡ true → admit_outcome k d urn juror ballot ≡ refused (reason_at 15 0)
  pub accepts : NewJuror k d urn juror → first_of (ballot_reasons (jury_of_one k d) ballot) ≡ none
      → is_empty (free_of k d urn) ≡ false
      → admit_outcome k d urn juror ballot ≡ accepted (length (entries_of k d urn) + 1)

pub record WithdrawOrder (k d : ℕ) (urn : List ℕ) (juror : ℕ) : Type 0 where
  pub other_shape : graded_shape k d ≡ false → withdraw_outcome k d urn juror ≡ refused (reason_at 1 0)
  pub unsound : graded_shape k d ≡ true → sound k d urn ≡ false
      → withdraw_outcome k d urn juror ≡ refused (reason_at 13 0)
  -- 14, for a bad number and for a juror whose ballot is not in the urn
  pub bad_juror : SoundUrn k d urn → good_juror juror ≡ false
      → withdraw_outcome k d urn juror ≡ refused (reason_at 14 0)
  pub no_ballot : SoundUrn k d urn → member juror (jurors_of (entries_of k d urn)) ≡ false
      → withdraw_outcome k d urn juror ≡ refused (reason_at 14 0)
  pub accepts : SoundUrn k d urn → good_juror juror ≡ true → member juror (jurors_of (entries_of k d urn)) ≡ true
      → withdraw_outcome k d urn juror ≡ accepted (length (entries_of k d urn) - 1)

pub record UrnOrder : Type 0 where
  pub admit : (k d : ℕ) (urn : List ℕ) (juror : ℕ) (ballot : List ℕ) → AdmitOrder k d urn juror ballot
  pub withdraw : (k d : ℕ) (urn : List ℕ) (juror : ℕ) → WithdrawOrder k d urn juror

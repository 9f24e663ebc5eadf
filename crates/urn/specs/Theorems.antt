-- What holds after a table becomes an empty urn, and after a ballot is admitted or withdrawn; stated about the
-- definitions that the contracts equate with the answers and with the urn after the call. `count` is what an
-- accepted call answers: the number of ballots that are now in the urn.
use Rattle.std.specs.Prelude.{◌≡◌, true, List, [], ◌∷◌, ℕ, suc, ◌-◌, ◌*◌, length, drop}
use Rattle.basics.specs.Lists.{tabulate}
use Rattle.tally.specs.Answer.{accepted}
use Rattle.urn_chains.specs.Chains.{first_free}
use Rattle.urn_chains.specs.Sound.{slot_count, sound, entries_of, free_of}
use Rattle.urn_chains.specs.Theorems.{SoundIsLaidOut}
pub use Rattle.urn.specs.Previews.{PreviewsTell}
use Rattle.urn.specs.Admit.{admit_outcome, admitted}
use Rattle.urn.specs.Withdraw.{withdraw_outcome, without_juror, slot_of_juror, withdrawn}
use Rattle.urn.specs.Empty.{empty_outcome, emptied}

-- An accepted call leaves a sound urn of the same length. It has no ballot, and the slots from 1 on are free, in
-- this order.
pub record AfterEmptying (k d : ℕ) (table : List ℕ) (count : ℕ) : Type 0 where
  pub made_sound : sound k d (emptied k d table) ≡ true
  pub same_length : length (emptied k d table) ≡ length table
  pub ballots : entries_of k d (emptied k d table) ≡ []
  pub counted : count ≡ length (entries_of k d (emptied k d table))
  pub free : free_of k d (emptied k d table) ≡ tabulate (slot_count (k * d) (length table) - 1) suc

-- An accepted admission leaves a sound urn of the same length. The new ballot is in the slot that was the first
-- free one. It comes before all other ballots, which are unchanged. The free chain has lost its first slot.
pub record AfterAdmission (k d : ℕ) (urn : List ℕ) (juror : ℕ) (ballot : List ℕ) (count : ℕ) : Type 0 where
  pub stays_sound : sound k d (admitted k d urn juror ballot) ≡ true
  pub same_length : length (admitted k d urn juror ballot) ≡ length urn
  pub ballots : entries_of k d (admitted k d urn juror ballot)
      ≡ record { slot = first_free (free_of k d urn); juror = juror; ballot = ballot } ∷ entries_of k d urn
  pub counted : count ≡ length (entries_of k d (admitted k d urn juror ballot))
  pub free : free_of k d (admitted k d urn juror ballot) ≡ drop 1 (free_of k d urn)
  -- withdrawing the same juror's ballot then gives the urn back, byte for byte
  pub undone : withdrawn k d (admitted k d urn juror ballot) juror ≡ urn

-- An accepted withdrawal leaves a sound urn of the same length. The ballot chain has lost the juror's ballot, whose
-- slot is now the first of the free chain.
pub record AfterWithdrawal (k d : ℕ) (urn : List ℕ) (juror count : ℕ) : Type 0 where
  pub stays_sound : sound k d (withdrawn k d urn juror) ≡ true
  pub same_length : length (withdrawn k d urn juror) ≡ length urn
  pub ballots : entries_of k d (withdrawn k d urn juror) ≡ without_juror juror (entries_of k d urn)
  pub counted : count ≡ length (entries_of k d (withdrawn k d urn juror))
  pub free : free_of k d (withdrawn k d urn juror) ≡ slot_of_juror juror (entries_of k d urn) ∷ free_of k d urn
  -- the next ballot that is admitted, from any juror, gets that slot; then the free slots are those from before the
  -- withdrawal
  pub taken_again : (next : ℕ) (ballot : List ℕ) (more : ℕ)
      → admit_outcome k d (withdrawn k d urn juror) next ballot ≡ accepted more
      → (entries_of k d (admitted k d (withdrawn k d urn juror) next ballot)
      ≡ record { slot = slot_of_juror juror (entries_of k d urn); juror = next; ballot = ballot }
      ∷ without_juror juror (entries_of k d urn))
      × (free_of k d (admitted k d (withdrawn k d urn juror) next ballot) ≡ free_of k d urn)

pub record UrnHolds : Type 0 where
  -- what sound means
  pub sound_means : SoundIsLaidOut
  pub emptying : (k d : ℕ) (table : List ℕ) (count : ℕ)
      → empty_outcome k d table ≡ accepted count → AfterEmptying k d table count
  pub admission : (k d : ℕ) (urn : List ℕ) (juror : ℕ) (ballot : List ℕ) (count : ℕ)
      → admit_outcome k d urn juror ballot ≡ accepted count → AfterAdmission k d urn juror ballot count
  pub withdrawal : (k d : ℕ) (urn : List ℕ) (juror count : ℕ)
      → withdraw_outcome k d urn juror ≡ accepted count → AfterWithdrawal k d urn juror count

-- What the functions require of an urn, and promise about it, when they search for a ballot, put one in or take one
-- out.
use Rattle.std.specs.Prelude.{◌≡◌, true, false, List, ℕ, ◌*◌, ◌≤◌, T, length, Option, Some, None}
use Rattle.urn_chains.specs.Slots.{slot_at}
use Rattle.urn_chains.specs.Sound.{graded_shape, good_juror, urn_slots, sound, free_of, most_slots}
use Rattle.urn.specs.declared.facts.Facts.{Facts}
use Rattle.urn.specs.declared.facts.UrnCheck.{UrnCheck}
use Rattle.urn.specs.Facts.{is_empty, facts_of}
use Rattle.urn_chains.specs.inner.Position.{placed_at}
use Rattle.urn.specs.inner.Position.{position_in}

-- What was found in a sound urn: the facts, and where the juror's ballot is.
pub record SoundChecked (k d : ℕ) (urn : List ℕ) (juror : ℕ) (check : UrnCheck) : Type 0 where
  pub told : facts_of k d urn juror ≡ Some check.facts
  pub few : check.facts.ballots ≤ most_slots
  pub placed : check.position ≡ position_in k d urn juror

-- The result of checking an urn: nothing of an unsound one.
abbrev pub UrnChecked : ℕ → ℕ → List ℕ → ℕ → Option UrnCheck → Type 0
UrnChecked k d urn juror (Some check) = SoundChecked k d urn juror check
UrnChecked k d urn juror None = facts_of k d urn juror ≡ None

-- The facts can decide an admission: the number of ballots is so small that adding one does not overflow.
pub record DecideReady (k d : ℕ) (facts : Facts) : Type 0 where
  pub graded : T (graded_shape k d)
  pub few : facts.ballots ≤ most_slots

-- The ballot can be put into the urn, which is sound and has a free slot.
pub record Admissible (k d : ℕ) (urn : List ℕ) (juror : ℕ) (ballot : List ℕ) : Type 0 where
  pub graded : T (graded_shape k d)
  pub is_sound : sound k d urn ≡ true
  pub room : is_empty (free_of k d urn) ≡ false
  pub numbered : good_juror juror ≡ true
  pub size : length ballot ≡ k * d

-- A ballot is in this slot, which comes after slot `before` in the chain.
pub record Present (k d : ℕ) (urn : List ℕ) (before slot : ℕ) : Type 0 where
  pub graded : T (graded_shape k d)
  pub is_sound : sound k d urn ≡ true
  pub placed : position_in k d urn (slot_at (urn_slots k d urn) slot).juror ≡ placed_at before slot

-- An urn is sound exactly if it is the layout of two good chains, and these are unique. So a reader can believe
-- `layout` and `good_chains`, and need not follow how `sound` reads the chains.
use Rattle.std.specs.Prelude.{◌≡◌, ◌↔◌, true, List, ℕ, ◌*◌, ◌≤◌}
use Rattle.urn_chains.specs.Slots.{bytes_of}
use Rattle.urn_chains.specs.Chains.{Entry, layout}
use Rattle.urn_chains.specs.Sound.{good_chains, entries_of, free_of, sound, most_slots}

-- The urn is the layout, in n slots, of the ballot chain es and the free chain `is`, and both are good.
pub record LaidOut (k d n : ℕ) (es : List Entry) (is : List ℕ) (urn : List ℕ) : Type 0 where
  pub least : 2 ≤ n
  pub most : n ≤ most_slots
  pub good : good_chains k d n es is ≡ true
  pub bytes : urn ≡ bytes_of (layout n (k * d) es is)

-- A sound urn is the layout of good chains, and a layout of good chains is sound.
pub record SoundIsLaidOut : Type 0 where
  pub exactly : (k d : ℕ) (urn : List ℕ)
      → (sound k d urn ≡ true) ↔ ((n : ℕ) × (es : List Entry) × (is : List ℕ) × LaidOut k d n es is urn)
  -- reading the chains of the urn gives es and `is`
  pub read_ballots : (k d n : ℕ) (es : List Entry) (is urn : List ℕ) → LaidOut k d n es is urn → entries_of k d urn ≡ es
  pub read_free : (k d n : ℕ) (es : List Entry) (is urn : List ℕ) → LaidOut k d n es is urn → free_of k d urn ≡ is
  -- no other number of slots, ballots or free slots gives this urn
  pub only : (k d n m : ℕ) (es fs : List Entry) (is js urn : List ℕ) → LaidOut k d n es is urn → LaidOut k d m fs js urn
      → (n ≡ m) × (es ≡ fs) × (is ≡ js)

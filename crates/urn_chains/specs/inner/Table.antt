-- The bytes of an urn as a table of slots.
use Rattle.std.specs.Prelude.{◌≡◌, Bool, true, false, List, ℕ, ◌*◌, ◌≤◌, T, length, Option, Some, None}
use Rattle.jury.specs.Shape.{most_candidates, most_grades}
use Rattle.urn_chains.specs.Slots.{slot_bytes}
use Rattle.urn_chains.specs.Sound.{graded_shape, most_slots}

-- The bytes are n slots for ballots of b bytes.
pub record SlotTable (b n : ℕ) (urn : List ℕ) : Type 0 where
  pub size : length urn ≡ n * slot_bytes b
  pub least : 2 ≤ n
  pub most : n ≤ most_slots
  pub few : b ≤ most_candidates * most_grades

-- The bytes are n slots for the ballots of a graded jury.
pub record GradedTable (k d n : ℕ) (urn : List ℕ) : Type 0 where
  pub graded : T (graded_shape k d)
  pub table : SlotTable (k * d) n urn

-- The answer of an urn's test: whether it is sound and, if so, how many ballots it has.
unfoldable pub soundness : Bool → ℕ → Option ℕ
soundness true ballots = Some ballots
soundness false ballots = None

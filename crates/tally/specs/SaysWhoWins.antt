-- The demand [accuracy] on the closing bytes of a jury, stated once for every call that answers them.
use Rattle.std.specs.Prelude.{◌≡◌, ◌↔◌, List, ℕ, ◌≤◌, ◌<◌, get_or}
use Rattle.jury.specs.declared.shape.Shape.{Shape}
use Rattle.tally.specs.Rule.{Wins}

-- Byte i is 1 exactly if candidate i wins by the rule of the shape's kind, and 0 exactly if it does not. All bytes
-- from place k on, if there are any, are 0.
pub record SaysWhoWins (s : Shape) (ballots bytes : List ℕ) : Type 0 where
  pub winner : (i : ℕ) → i < s.candidates → (get_or bytes i 0 ≡ 1) ↔ Wins s ballots i
  pub loser : (i : ℕ) → i < s.candidates → (get_or bytes i 0 ≡ 0) ↔ (¬ Wins s ballots i)
  pub past : (i : ℕ) → s.candidates ≤ i → get_or bytes i 0 ≡ 0

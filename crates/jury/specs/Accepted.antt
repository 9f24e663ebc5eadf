-- Accepted ballots, as facts. `TestsAccept` says that these facts hold exactly if none of the reasons 1, 4, 5, 6
-- (grades), 11 and 12 (rankings) applies.
use Rattle.std.specs.Prelude.{◌≡◌, true, false, List, ℕ, ◌*◌, ◌≤◌, ◌<◌, length, get_or, take, drop}
use Rattle.jury.specs.declared.shape.Shape.{Shape}
use Rattle.jury.specs.Shape.{is_ranking, graded_limits, within_limits, ballot_bytes}
use Rattle.jury.specs.Ballots.{ones}
use Rattle.jury.specs.Rankings.{before}
use Rattle.jury.specs.WeakOrder.{StrictWeakOrder}

-- The shape is within its limits, there are I bytes, and all of them are bits (past the end `get_or` gives 0). Every
-- row of grades has a single 1, and every ranking is a strict weak order.
pub record AcceptedBallots (s : Shape) (xs : List ℕ) : Type 0 where
  pub within : within_limits s ≡ true
  pub size : length xs ≡ ballot_bytes s
  pub bits : (i : ℕ) → get_or xs i 0 ≤ 1
  pub rows : is_ranking s ≡ false → (r : ℕ) → r < s.ballots * s.candidates
      → ones (take s.grades (drop (r * s.grades) xs)) ≡ 1
  pub orders : is_ranking s ≡ true → (b : ℕ) → b < s.ballots
      → StrictWeakOrder s.candidates (before s.candidates xs b)

-- The same for graded ballots only.
pub record GradedBallots (s : Shape) (xs : List ℕ) : Type 0 where
  pub within : graded_limits s ≡ true
  pub size : length xs ≡ ballot_bytes s
  pub bits : (i : ℕ) → get_or xs i 0 ≤ 1
  pub rows : (r : ℕ) → r < s.ballots * s.candidates → ones (take s.grades (drop (r * s.grades) xs)) ≡ 1

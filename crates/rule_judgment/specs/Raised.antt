-- A better grade costs nobody the win: request 2.12 for the rule. `Monotone` of tally has it for the own list.
use Rattle.std.specs.Prelude.{◌≡◌, ◌⊎◌, ◌≢◌, List, ℕ, ◌<◌, get_or}
use Rattle.jury.specs.declared.shape.Shape.{Shape}
use Rattle.jury.specs.Counts.{byte_of, counts_of}
use Rattle.jury.specs.Accepted.{GradedBallots}
use Rattle.rule_judgment.specs.Judgment.{judgment_of}

-- Two accepted sets of ballots that differ in one row only: there `ballot` gives the candidate the grade `to` in
-- place of `from`. Grade `to` is better, so its number is smaller.
pub record Raised (s : Shape) (candidate : ℕ) (old new : List ℕ) : Type 0 where
  pub old_accepted : GradedBallots s old
  pub new_accepted : GradedBallots s new
  pub a_candidate : candidate < s.candidates
  pub ballot : ℕ
  pub a_ballot : ballot < s.ballots
  pub from : ℕ
  pub to : ℕ
  pub better : to < from
  pub a_grade : from < s.grades
  pub old_grade : byte_of s old ballot candidate from ≡ 1
  pub new_grade : byte_of s new ballot candidate to ≡ 1
  pub others : (b c g : ℕ) → b < s.ballots → c < s.candidates → g < s.grades → (b ≢ ballot) ⊎ (c ≢ candidate)
      → byte_of s new b c g ≡ byte_of s old b c g

-- From one set of ballots to another by raising the candidate's grades any number of times, by one juror or
-- several.
pub data RaisedOften (s : Shape) (candidate : ℕ) : List ℕ → List ℕ → Type 0 where
  unchanged : {xs : List ℕ} → RaisedOften s candidate xs xs
  once_more : {xs ys zs : List ℕ} → RaisedOften s candidate xs ys → Raised s candidate ys zs
      → RaisedOften s candidate xs zs

-- The closing byte of candidate c by the rule, for the ballots xs.
abbrev pub byte_for : Shape → List ℕ → ℕ → ℕ
byte_for s xs c = get_or (judgment_of (counts_of s xs)) c 0

-- The candidate wins with the new ballots, and whoever did not win with the old ones does not win now.
pub record NothingLost (s : Shape) (candidate : ℕ) (old new : List ℕ) : Type 0 where
  pub still_wins : byte_for s new candidate ≡ 1
  pub no_new_winner : (c : ℕ) → c < s.candidates → byte_for s old c ≡ 0 → byte_for s new c ≡ 0

-- The candidate wins, and no other does.
pub record WinsAlone (s : Shape) (candidate : ℕ) (xs : List ℕ) : Type 0 where
  pub wins : byte_for s xs candidate ≡ 1
  pub alone : (c : ℕ) → c < s.candidates → c ≢ candidate → byte_for s xs c ≡ 0

-- If grades of a winner are raised, it still wins, and nobody else becomes a winner.
abbrev pub LikedMore : Type 0
LikedMore =
    (s : Shape) (candidate : ℕ) (old new : List ℕ) → RaisedOften s candidate old new → byte_for s old candidate ≡ 1
    → NothingLost s candidate old new

-- If grades of a sole winner are raised, it stays the sole winner.
abbrev pub StillAlone : Type 0
StillAlone =
    (s : Shape) (candidate : ℕ) (old new : List ℕ) → RaisedOften s candidate old new → WinsAlone s candidate old
    → WinsAlone s candidate new

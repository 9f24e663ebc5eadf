-- The rule of a shape: full majority judgment for grades, Schulze's rule for rankings (requests 2.1 and 2.2).
use Rattle.std.specs.Prelude.{◌≡◌, true, false, cond, List, ℕ}
use Rattle.jury.specs.declared.shape.Shape.{Shape}
use Rattle.jury.specs.Shape.{is_ranking}
use Rattle.jury.specs.Counts.{counts_of}
use Rattle.rule_judgment.specs.Judgment.{judgment_of}
use Rattle.rule_judgment.specs.Winner.{JudgmentWinner}
use Rattle.rule_schulze.specs.Votes.{votes}
use Rattle.rule_schulze.specs.Schulze.{schulze_of}
use Rattle.rule_schulze.specs.Winner.{SchulzeWinner}

-- The k closing bytes of a jury's ballots by the rule.
unfoldable pub closing_for : Shape → List ℕ → List ℕ
closing_for s xs =
    cond (is_ranking s)
    (schulze_of (votes s.candidates s.ballots xs) s.candidates)
    (judgment_of (counts_of s xs))

-- Candidate i wins, as a statement instead of a computation.
pub record Wins (s : Shape) (xs : List ℕ) (i : ℕ) : Type 0 where
  -- with grades: no candidate's sequence comes before that of i
  pub graded : is_ranking s ≡ false → JudgmentWinner (counts_of s xs) i
  -- with rankings: no other candidate's strongest path to i is stronger than the strongest path from i to that
  -- candidate
  pub ranked : is_ranking s ≡ true → SchulzeWinner (votes s.candidates s.ballots xs) s.candidates i

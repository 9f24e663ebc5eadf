-- What holds for Schulze's rule, as statements; proofs/Theorems.antt has a proof of each.
use Rattle.std.specs.Prelude.{◌≡◌, ◌↔◌, ◌≢◌, List, ℕ, ◌≤◌, ◌<◌, length, get_or}
use Rattle.rule_schulze.specs.Schulze.{link, weakest, strongest, schulze_of}
use Rattle.rule_schulze.specs.Winner.{EachLink, Strongest, SchulzeWinner}

-- Closing byte i is 1 exactly if candidate i wins, and 0 exactly if it does not.
pub record SchulzeByteSays (v : ℕ → ℕ → ℕ) (k i : ℕ) : Type 0 where
  pub one : (get_or (schulze_of v k) i 0 ≡ 1) ↔ SchulzeWinner v k i
  pub zero : (get_or (schulze_of v k) i 0 ≡ 0) ↔ (¬ SchulzeWinner v k i)

pub record SchulzeHolds : Type 0 where
  -- a link is as strong as the votes for it if they are more than those against it; otherwise its strength is 0
  pub link_won : (v : ℕ → ℕ → ℕ) (i j : ℕ) → v j i < v i j → link v i j ≡ v i j
  pub link_lost : (v : ℕ → ℕ → ℕ) (i j : ℕ) → v i j ≤ v j i → link v i j ≡ 0
  -- a path is as strong as its weakest link: it has at least the strength x exactly if each of its links has
  pub weakest_link : (s : ℕ → ℕ → ℕ) (x i : ℕ) (between : List ℕ) (j : ℕ)
      → (x ≤ weakest s i between j) ↔ EachLink s x i between j
  -- the computed strength is that of the strongest path, and strongest paths have one strength
  pub strongest_is : (s : ℕ → ℕ → ℕ) (k i j : ℕ) → i ≢ j → Strongest s k i j (strongest s k i j)
  pub strongest_exists : (s : ℕ → ℕ → ℕ) (k i j : ℕ) → i ≢ j → (x : ℕ) × Strongest s k i j x
  pub strongest_unique : (s : ℕ → ℕ → ℕ) (k i j x y : ℕ) → Strongest s k i j x → Strongest s k i j y → x ≡ y
  -- there is one closing byte for each candidate, and it says whether the candidate wins
  pub bytes : (v : ℕ → ℕ → ℕ) (k : ℕ) → length (schulze_of v k) ≡ k
  pub byte : (v : ℕ → ℕ → ℕ) (k i : ℕ) → i < k → SchulzeByteSays v k i
  -- a jury with at least one candidate has a winner
  pub somebody_wins : (v : ℕ → ℕ → ℕ) (k : ℕ) → 0 < k → (i : ℕ) × (i < k) × SchulzeWinner v k i
  -- a Condorcet winner, preferred to each other candidate by more ballots than the reverse, is the only winner
  pub condorcet : (v : ℕ → ℕ → ℕ) (k i : ℕ) → i < k → ((j : ℕ) → j < k → j ≢ i → v j i < v i j)
      → SchulzeWinner v k i × ((j : ℕ) → j < k → j ≢ i → ¬ SchulzeWinner v k j)

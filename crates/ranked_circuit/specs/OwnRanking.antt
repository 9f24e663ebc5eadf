-- The own list of a ranking shape, and what holds for it (request 2.2).
use Rattle.std.specs.Prelude.{◌≡◌, List, ℕ, ◌+◌, ◌-◌, ◌*◌, ◌≤◌, length, get_or}
use Rattle.gates.specs.Gate.{Gate, numbers_of}
use Rattle.gates.specs.Board.{conditional_count}
use Rattle.gates.specs.Wires.{wires_of, outputs_of}
use Rattle.gates.specs.Test.{tested, accepted}
use Rattle.jury.specs.Width.{width_of}
use Rattle.rule_schulze.specs.Schulze.{schulze_of}
use Rattle.rule_schulze.specs.Votes.{votes}
use Rattle.ranked_circuit.specs.RankedList.{ranked_list}

-- The list for k candidates and n ballots. Its words are as wide as n.
unfoldable pub own_ranking : ℕ → ℕ → List Gate
own_ranking k n = ranked_list k n (width_of n - 1)

-- The bound on the number of gates; w is the width of n.
unfoldable pub ranking_bound : ℕ → ℕ → ℕ → ℕ
ranking_bound k n w = 2 * k * k * n * w + k * k * k * (12 * w + 4) + k * k * (20 * w + 20) + 2

-- What holds for k from 1 to 8 and n from 1 to 255.
pub record OwnRankingHolds (k n : ℕ) : Type 0 where
  -- the test accepts the list, for as many inputs as ballot bytes and k outputs, and answers its G and C
  pub passes : tested (n * k * k) k (numbers_of (own_ranking k n))
      ≡ accepted (length (own_ranking k n)) (conditional_count (own_ranking k n))
  -- G is within the bound
  pub bounded : length (own_ranking k n) ≤ ranking_bound k n (width_of n)
  -- for any ballots that are bits, the closing bytes are those of Schulze's rule
  pub closing : (ballots : List ℕ) → length ballots ≡ n * k * k → ((p : ℕ) → get_or ballots p 0 ≤ 1)
      → outputs_of k (wires_of ballots (own_ranking k n)) ≡ schulze_of (votes k n ballots) k

-- The public numbers from which a ranked tasting's own list is written, and what is kept for each pair of candidates.
use Rattle.std.specs.Prelude.{Bool, cond, ◌&&◌, ◌≢◌, List, ℕ, suc, ◌+◌, ◌-◌, ◌*◌, ◌≤◌, ◌<◌, ltb, get_or, set}
use Rattle.gate_words.specs.Counter.{Countable}
use Rattle.jury.specs.Shape.{most_candidates, most_ballots}
use Rattle.ranked_blocks.specs.declared.entries.Ranks.{Ranks}

-- Two to eight candidates, 1 to 255 ballots, and words just wide enough to count them.
pub record Ranked (p : Ranks) : Type 0 where
  pub k_least : 2 ≤ p.candidates
  pub k_most : p.candidates ≤ most_candidates
  pub n_least : 1 ≤ p.ballots
  pub n_most : p.ballots ≤ most_ballots
  pub w_most : p.digits ≤ 7
  pub countable : Countable p.ballots 0 p.digits

-- The wire kept for i and j, of k candidates.
abbrev pub kept_of : List ℕ → ℕ → ℕ → ℕ → ℕ
kept_of wires k i j = get_or wires (i * k + j) 0

-- The kept wires after block e: x is kept at place e, unless `stays` says that nothing changes.
abbrev pub keep : Bool → List ℕ → ℕ → ℕ → List ℕ
keep stays wires e x = cond stays wires (set wires e x)

-- The kept wires after the block of i and j, which ends just before `wire`. If j is earlier than i and `rows` holds
-- for i, there is such a block: its last wire but one is kept for i and j, its last for j and i.
abbrev pub keep_links : (ℕ → Bool) → List ℕ → ℕ → ℕ → ℕ → ℕ → List ℕ
keep_links rows wires k i j wire =
    cond (ltb j i && rows i) (set (set wires (i * k + j) (wire - 2)) (j * k + i) (wire - 1)) wires

-- The words kept for each pair of candidates, of w + 1 digits, end before the wire `wire`.
abbrev pub WordsBelow : List ℕ → ℕ → ℕ → ℕ → Type 0
WordsBelow words k w wire = (i j : ℕ) → i < k → j < k → i ≢ j → kept_of words k i j + suc w ≤ wire

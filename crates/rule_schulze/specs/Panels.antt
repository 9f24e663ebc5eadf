-- Ranked juries and their closing bytes. A ballot gives each candidate a rank, and a smaller rank is a better one.
use Rattle.std.specs.Prelude.{◌≡◌, refl, cond, ℕ, ◌+◌, ltb, get_or}
use mathlib.Core.List.{List, [], ◌∷◌, map, flat_map}
use Rattle.basics.specs.Lists.{tabulate, all, maximum}
use Rattle.rule_schulze.specs.Schulze.{link, weakest, all_candidates, without, selections, simple_paths, strongest, wins, schulze_of}

-- `times` equal ballots; `ranks` has the rank of each candidate.
pub record Ballots : Type 0 where
  pub times : ℕ
  pub ranks : List ℕ

-- A jury of `size` candidates with its ballots, and its closing bytes.
pub record Panel : Type 0 where
  pub size : ℕ
  pub ballots : List Ballots
  pub closing : List ℕ

ballots : ℕ → List ℕ → Ballots
ballots times ranks = record { times = times; ranks = ranks }

panel : ℕ → List Ballots → List ℕ → Panel
panel size ballots bytes = record { size = size; ballots = ballots; closing = bytes }

-- How many of these ballots put i before j.
pub preferring : List Ballots → ℕ → ℕ → ℕ
preferring [] i j = 0
preferring (b ∷ bs) i j = cond (ltb (get_or b.ranks i 0) (get_or b.ranks j 0)) b.times 0 + preferring bs i j

-- In this order: a cycle of three; the example with 45 ballots from Schulze's paper; a tie of two; a single
-- candidate; a jury that would be tied if strengths were margins; one that needs a path of three links.
pub panels : List Panel
panels =
    panel 3 (ballots 1 (0 ∷ 1 ∷ 2 ∷ []) ∷ ballots 1 (2 ∷ 0 ∷ 1 ∷ []) ∷ ballots 1 (1 ∷ 2 ∷ 0 ∷ []) ∷ []) (1 ∷ 1 ∷ 1 ∷ [])
    ∷ panel 5
    (ballots 5 (0 ∷ 2 ∷ 1 ∷ 4 ∷ 3 ∷ [])
    ∷ ballots 5 (0 ∷ 4 ∷ 3 ∷ 1 ∷ 2 ∷ [])
    ∷ ballots 8 (3 ∷ 0 ∷ 4 ∷ 2 ∷ 1 ∷ [])
    ∷ ballots 3 (1 ∷ 2 ∷ 0 ∷ 4 ∷ 3 ∷ [])
    ∷ ballots 7 (1 ∷ 3 ∷ 0 ∷ 4 ∷ 2 ∷ [])
    ∷ ballots 2 (2 ∷ 1 ∷ 0 ∷ 3 ∷ 4 ∷ [])
    ∷ ballots 7 (4 ∷ 3 ∷ 1 ∷ 0 ∷ 2 ∷ [])
    ∷ ballots 8 (2 ∷ 1 ∷ 4 ∷ 3 ∷ 0 ∷ [])
    ∷ [])
    (0 ∷ 0 ∷ 0 ∷ 0 ∷ 1 ∷ [])
    ∷ panel 2 (ballots 1 (0 ∷ 0 ∷ []) ∷ []) (1 ∷ 1 ∷ [])
    ∷ panel 1 (ballots 1 (0 ∷ []) ∷ []) (1 ∷ [])
    ∷ panel 3 (ballots 2 (1 ∷ 1 ∷ 0 ∷ []) ∷ ballots 1 (2 ∷ 0 ∷ 1 ∷ []) ∷ ballots 2 (0 ∷ 1 ∷ 2 ∷ []) ∷ []) (0 ∷ 1 ∷ 0
    ∷ [])
    ∷ panel 4 (ballots 1 (1 ∷ 0 ∷ 3 ∷ 0 ∷ []) ∷ ballots 1 (0 ∷ 0 ∷ 1 ∷ 3 ∷ []) ∷ ballots 1 (2 ∷ 3 ∷ 0 ∷ 1 ∷ []) ∷ []) (0
    ∷ 1 ∷ 0 ∷ 0 ∷ [])
    ∷ []

-- The rule gives each panel its closing bytes.
pub ranked_panels_hold : map (λ (p : Panel). schulze_of (preferring p.ballots) p.size) panels
    ≡ map (λ (p : Panel). p.closing) panels
unfolding panels panel ballots preferring schulze_of wins all strongest simple_paths maximum selections without
    all_candidates weakest link tabulate flat_map
ranked_panels_hold = refl

-- Paths and winners, as statements instead of computations.
use Rattle.std.specs.Prelude.{◌≡◌, ◌≢◌, ℕ, ◌≤◌, ◌<◌}
use mathlib.Core.List.{List, [], ◌∷◌, Memᴰ}
use Rattle.rule_schulze.specs.Schulze.{link, weakest}

-- x is in the list.
abbrev pub On : ℕ → List ℕ → Type 0
On x xs = Memᴰ x xs

-- No number occurs twice in the list.
abbrev pub Distinct : List ℕ → Type 0
Distinct [] = Unit {0}
Distinct (x ∷ xs) = (¬ On x xs) × Distinct xs

-- A path from i over the candidates `between` to j, among k candidates, that visits nobody twice.
pub record SimplePath (k i : ℕ) (between : List ℕ) (j : ℕ) : Type 0 where
  pub below : (x : ℕ) → On x between → x < k
  pub once : Distinct (i ∷ j ∷ between)

-- Each link of the path from i over `between` to j has at least the strength x. s has the strengths of the links.
abbrev pub EachLink : (ℕ → ℕ → ℕ) → ℕ → ℕ → List ℕ → ℕ → Type 0
EachLink s x i [] j = x ≤ s i j
EachLink s x i (l ∷ between) j = (x ≤ s i l) × EachLink s x l between j

-- Some such path from i to j has the strength x, and none is stronger. s has the strengths of the links.
pub record Strongest (s : ℕ → ℕ → ℕ) (k i j x : ℕ) : Type 0 where
  pub attained : (between : List ℕ) × SimplePath k i between j × (weakest s i between j ≡ x)
  pub largest : (between : List ℕ) → SimplePath k i between j → weakest s i between j ≤ x

-- i wins: no other candidate's strongest path to i is stronger than the strongest path from i to that candidate.
abbrev pub SchulzeWinner : (ℕ → ℕ → ℕ) → ℕ → ℕ → Type 0
SchulzeWinner v k i = (j x y : ℕ) → j < k → j ≢ i → Strongest (link v) k i j x → Strongest (link v) k j i y → y ≤ x

-- Schulze's rule (request 2.2) for any votes v: v i j is the number of ballots that put candidate i before
-- candidate j.
use Rattle.std.specs.Prelude.{Bool, cond, ◌||◌, ℕ, zero, suc, min, leb, ltb, eqb}
use mathlib.Core.List.{List, [], ◌∷◌, map, flat_map}
use Rattle.basics.specs.Lists.{tabulate, all, maximum}

-- The strength of the link from i to j [schulze]: v i j if it is larger than v j i; otherwise it is 0.
unfoldable pub link : (ℕ → ℕ → ℕ) → ℕ → ℕ → ℕ
link v i j = cond (ltb (v j i) (v i j)) (v i j) 0

-- A path from i to j is the list of the candidates between them. Its strength is that of its weakest link; s i j is
-- the strength of the link from i to j.
unfoldable pub weakest : (ℕ → ℕ → ℕ) → ℕ → List ℕ → ℕ → ℕ
weakest s i [] j = s i j
weakest s i (l ∷ between) j = min (s i l) (weakest s l between j)

-- The candidates 0 to k − 1.
unfoldable pub all_candidates : ℕ → List ℕ
all_candidates k = tabulate k (λ i. i)

-- The list without the candidate x.
unfoldable pub without : ℕ → List ℕ → List ℕ
without x [] = []
without x (y ∷ ys) = cond (eqb x y) (without x ys) (y ∷ without x ys)

-- All lists of at most `most` of the candidates in `free`, in every order and without repetition.
unfoldable pub selections : ℕ → List ℕ → List (List ℕ)
selections zero free = [] ∷ []
selections (suc most) free = [] ∷ flat_map (λ l. map (λ rest. l ∷ rest) (selections most (without l free))) free

-- The paths from i to j, among k candidates, that visit nobody twice.
unfoldable pub simple_paths : ℕ → ℕ → ℕ → List (List ℕ)
simple_paths k i j = selections k (without i (without j (all_candidates k)))

-- The strength of the strongest path from i to j.
unfoldable pub strongest : (ℕ → ℕ → ℕ) → ℕ → ℕ → ℕ → ℕ
strongest s k i j = maximum (map (λ between. weakest s i between j) (simple_paths k i j))

-- i wins if no other candidate j has a stronger path to i than i has to j.
unfoldable pub wins : (ℕ → ℕ → ℕ) → ℕ → ℕ → Bool
wins v k i = all (λ j. eqb j i || leb (strongest (link v) k j i) (strongest (link v) k i j)) (all_candidates k)

-- One closing byte for each candidate: 1 for a winner, else 0.
unfoldable pub schulze_of : (ℕ → ℕ → ℕ) → ℕ → List ℕ
schulze_of v k = tabulate k (λ i. cond (wins v k i) 1 0)

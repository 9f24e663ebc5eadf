-- Tables that are filled from the front.
-- Assumes nothing.
use mathlib.Core.Path.{◌≡◌, refl, ap}
use mathlib.Core.List.{List, [], ◌∷◌, ◌++◌}
use Prim.Native.Nat.{ℕ, zero, suc, ◌+◌}
use native.Mathlib.Omega.{arith}
use lib.ListN.{length, get_or, set, replicate}
use lib.Seq.{sets}

-- storing two lists one after the other
pub sets_append : (xs ys t : List ℕ) (i j : ℕ) → j ≡ i + length xs → sets (sets t i xs) j ys ≡ sets t i (xs ++ ys)
sets_append [] ys t i j e = ap (λ (k : ℕ). sets t k ys) (omega arith)
sets_append (x ∷ xs) ys t i j e = sets_append xs ys (set t i x) (suc i) j (omega arith)

-- every entry of a table of zeros is 0
pub zeros_at : (n i : ℕ) → ◌≡◌ {A = ℕ} (get_or (replicate n 0) i 0) 0
zeros_at zero i = refl
zeros_at (suc n) zero = refl
zeros_at (suc n) (suc i) = zeros_at n i

-- The median grade of a row of counts, best grade first. The gauge and full majority judgment both use it.
use Rattle.std.specs.Prelude.{cond, List, [], ◌∷◌, ℕ, suc, ◌+◌, ◌*◌, leb}
use Rattle.basics.specs.Lists.{sum}

-- The first place at which the running sum is at least half of n. The sum includes `before` and the count at the
-- place.
unfoldable pub median_from : ℕ → ℕ → List ℕ → ℕ
median_from n before [] = 0
median_from n before (x ∷ xs) = cond (leb n (2 * (before + x))) 0 (suc (median_from n (before + x) xs))

-- The median grade of a row of counts; n is their sum. Grade 0 is the best: a better grade is a smaller number.
unfoldable pub median_of : List ℕ → ℕ
median_of row = median_from (sum row) 0 row

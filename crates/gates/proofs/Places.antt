-- Searches for the first place, one step at a time.
-- Assumes nothing.
use Rattle.std.specs.Prelude.{Some}
use mathlib.Core.Path.{◌≡◌, ◌∙◌, ap}
use mathlib.Core.Bool.{cond}
use mathlib.Core.List.{List}
use Prim.Native.Nat.{ℕ, suc, ◌≤◌, ◌<◌}
use lib.Dec.{ltb}
use lib.ListN.{length, get_or, drop}
use lib.Seq.{drop-cons}
use borrow.Author.Tests.{lt-ltb, le-ltb}
use Rattle.gates.specs.Test.{first_above_one}

-- the search from place i on looks at byte i first
above_step : (xs : List ℕ) (i : ℕ) → i < length xs → first_above_one i (drop i xs)
    ≡ cond (ltb 1 (get_or xs i 0)) (Some i) (first_above_one (suc i) (drop (suc i) xs))
unfolding first_above_one
above_step xs i h = rw (drop-cons xs i 0)

pub above_here : (xs : List ℕ) (i : ℕ) → i < length xs → 1 < get_or xs i 0 → first_above_one i (drop i xs) ≡ Some i
above_here xs i h l = above_step xs i h ∙ ap (λ t. cond t (Some i) (first_above_one (suc i) (drop (suc i) xs))) (lt-ltb 1 (get_or xs i 0) l)

pub above_later : (xs : List ℕ) (i : ℕ) → i < length xs → get_or xs i 0 ≤ 1 → first_above_one i (drop i xs)
    ≡ first_above_one (suc i) (drop (suc i) xs)
above_later xs i h l = above_step xs i h ∙ ap (λ t. cond t (Some i) (first_above_one (suc i) (drop (suc i) xs))) (le-ltb 1 (get_or xs i 0) l)

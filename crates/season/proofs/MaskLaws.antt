-- Masks, one binary digit at a time.
-- Assumes nothing.
use mathlib.Core.Path.{◌≡◌, ◌∙◌, refl, sym, ap}
use mathlib.Core.Bool.{Bool, true, false}
use Prim.Native.Nat.{ℕ, suc, ◌+◌, ◌-◌, ◌/◌, ◌%◌, ◌^◌, ◌≤◌, ◌<◌}
use native.Mathlib.Nat.{two-pow-succ}
use native.Mathlib.Omega.{arith}
use lib.Dec.{ltb}
use borrow.Author.Tests.{ltb-true, ltb-false, lt-ltb, le-ltb}
use Rattle.season.specs.Season.{ones_in}

-- half of a number is below a power of two exactly if the number is below the next
half_below : (rest m : ℕ) → ltb (rest / 2) (2 ^ m) ≡ ltb rest (2 ^ suc m)
half_below rest m = go (ltb rest (2 ^ suc m)) refl
  where
    go : (t : Bool) → ltb rest (2 ^ suc m) ≡ t → ltb (rest / 2) (2 ^ m) ≡ ltb rest (2 ^ suc m)
    go true e = lt-ltb (rest / 2) (2 ^ m) (omega (arith, ltb-true rest (2 ^ suc m) e, two-pow-succ m)) ∙ sym e
    go false e = le-ltb (rest / 2) (2 ^ m) (omega (arith, ltb-false rest (2 ^ suc m) e, two-pow-succ m)) ∙ sym e

-- dropping the lowest digit of the mask and one candidate
pub fits_step : (rest i k : ℕ) → i < k → ltb (rest / 2) (2 ^ (k - (i + 1))) ≡ ltb rest (2 ^ (k - i))
fits_step rest i k h = half_below rest (k - (i + 1)) ∙ ap (λ (n : ℕ). ltb rest (2 ^ n)) {x = suc (k - (i + 1))} {y = k - i} (omega arith)

-- the ones of a mask: the lowest digit, then those of its half
pub ones_step : (rest i digits : ℕ) → i < digits → ones_in (digits - i) rest ≡ rest % 2 + ones_in (digits - (i + 1)) (rest / 2)
unfolding ones_in
ones_step rest i digits h = ap (λ (n : ℕ). ones_in n rest) {x = digits - i} {y = suc (digits - (i + 1))} (omega arith)

pub ones_end : (rest i digits : ℕ) → digits ≤ i → ones_in (digits - i) rest ≡ 0
unfolding ones_in
ones_end rest i digits h = ap (λ (n : ℕ). ones_in n rest) {x = digits - i} {y = 0} (omega arith)

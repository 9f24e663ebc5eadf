-- Blocks with several gates for each digit, as a first digit and the rest; and their lengths.
-- Assumes nothing.
use mathlib.Core.Path.{◌≡◌, refl, ap}
use mathlib.Core.Bool.{Bool, true, false, cond}
use mathlib.Core.List.{List, [], ◌∷◌, ◌++◌}
use Prim.Native.Nat.{ℕ, zero, suc, ◌+◌, ◌-◌, ◌*◌, ◌<◌, ◌≤◌}
use native.Mathlib.Omega.{arith}
use lib.Dec.{eqb}
use lib.ListN.{length}
use Rattle.gates.specs.Gate.{Gate}
use Rattle.gate_words.specs.Gates.{copy_of, not_of, and_of, or_of, xor_of, mux_of}
use Rattle.gate_words.specs.Adder.{full_adder, half_adder, increment}
use Rattle.gate_words.specs.Comparison.{first_digit, compare_words, differences, above}
use Rattle.gate_words.proofs.ChoiceSteps.{left_one, next_place}

pub compare_step : (n x y up down i w : ℕ) → i < w
    → compare_words n (x + i) (y + i) up down (w - i) ≡ compare_words n (x + i) (y + i) up down 1
    ++ compare_words (n + 3) (x + (i + 1)) (y + (i + 1)) (n + 1) (n + 2) (w - (i + 1))
unfolding compare_words
compare_step n x y up down i w h = rw (left_one i w h, next_place x i, next_place y i)

pub compare_none : (n x y up down i w : ℕ) → w ≤ i → compare_words n x y up down (w - i) ≡ []
unfolding compare_words
compare_none n x y up down i w h = let e : w - i ≡ 0 = omega arith in rw e

pub above_step : (n f x s i w : ℕ) → i < w → above n (f + i) (x + i) s (w - i) ≡ (mux_of (f + i) (x + i) s ∷ [])
    ++ above (n + 1) (f + (i + 1)) (x + (i + 1)) n (w - (i + 1))
unfolding above
above_step n f x s i w h = rw (left_one i w h, next_place f i, next_place x i)

pub above_none : (n f x s i w : ℕ) → w ≤ i → above n f x s (w - i) ≡ []
unfolding above
above_none n f x s i w h = let e : w - i ≡ 0 = omega arith in rw e

pub length_full : (n s u v : ℕ) → length (full_adder n s u v) ≡ 3
unfolding full_adder
length_full n s u v = refl

pub length_half : (n s u e : ℕ) → length (half_adder n s u e) ≡ 3
unfolding half_adder
length_half n s u e = either (eqb e 0) (xor_of s u ∷ copy_of n ∷ and_of s u ∷ []) (xor_of s u ∷ not_of n ∷ or_of s u ∷ []) refl refl
  where
    either : (b : Bool) (xs ys : List Gate) → length xs ≡ 3 → length ys ≡ 3 → length (cond b xs ys) ≡ 3
    either true xs ys p q = p
    either false xs ys p q = q

pub length_increment : (n s : ℕ) → length (increment n s) ≡ 3
unfolding increment
length_increment n s = refl

pub length_compare : (n x y up down w : ℕ) → length (compare_words n x y up down w) ≡ 3 * w
unfolding compare_words
length_compare n x y up down zero = refl
length_compare n x y up down (suc w) = omega (arith, length_compare (n + 3) (x + 1) (y + 1) (n + 1) (n + 2) w)

pub length_first_digit : (n x y : ℕ) → length (first_digit n x y) ≡ 3
unfolding first_digit
length_first_digit n x y = refl

pub length_differences : (x y w : ℕ) → length (differences x y w) ≡ w
unfolding differences
length_differences x y zero = refl
length_differences x y (suc w) = ap suc (length_differences (x + 1) (y + 1) w)

pub length_above : (n f x s w : ℕ) → length (above n f x s w) ≡ w
unfolding above
length_above n f x s zero = refl
length_above n f x s (suc w) = ap suc (length_above (n + 1) (f + 1) (x + 1) n w)

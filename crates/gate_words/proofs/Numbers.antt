-- Sums of bits, and the numbers that words hold.
-- Assumes nothing.
use mathlib.Core.Path.{◌≡◌, ◌∙◌, refl, ap}
use Prim.Native.Nat.{ℕ, zero, suc, ◌+◌, ◌*◌, ◌^◌, ◌≤◌, ◌<◌}
use native.Mathlib.Nat.{pow-succ', zero-add, add-zero, suc-add, mul_assoc}
use native.Mathlib.Omega.{arith}
use Rattle.gate_words.specs.Word.{ones_at, number}

-- every wire is a bit
abbrev pub Binary : (ℕ → ℕ) → Type 0
Binary W = (i : ℕ) → W i ≤ 1

pub number_less : (W : ℕ → ℕ) → Binary W → (at d w : ℕ) → number W at d w < 2 ^ w
unfolding number
number_less W b at d zero = omega arith
number_less W b at d (suc w) = omega (arith, b at, number_less W b (at + d) d w, pow-succ' 2 w)

-- the lower digits of a word, and those above them
pub number_split : (W : ℕ → ℕ) (at v w : ℕ) → number W at 1 (v + w) ≡ number W at 1 v + 2 ^ v * number W (at + v) 1 w
unfolding number
number_split W at zero w = rw (zero-add w, add-zero at) (omega arith)
number_split W at (suc v) w =
    let high = number W (at + 1 + v) 1 w in
    let place : at + suc v ≡ at + 1 + v = omega arith in
    let twice : 2 ^ suc v * high ≡ 2 * (2 ^ v * high) = ap (λ (x : ℕ). x * high) (pow-succ' 2 v) ∙ mul_assoc 2 (2 ^ v) high in
    rw (suc-add v w, place) (omega (arith, number_split W (at + 1) v w, twice))

-- a word of one digit, and of none
pub number_one : (W : ℕ → ℕ) (at d : ℕ) → number W at d 1 ≡ W at
unfolding number
number_one W at d = omega arith

pub number_none : (W : ℕ → ℕ) (at d : ℕ) → number W at d 0 ≡ 0
unfolding number
number_none W at d = refl

-- the lowest digit, and the others
pub number_more : (W : ℕ → ℕ) (at d w : ℕ) → number W at d (suc w) ≡ W at + 2 * number W (at + d) d w
unfolding number
number_more W at d w = refl

pub ones_none : (W : ℕ → ℕ) (at d : ℕ) → ones_at W at d 0 ≡ 0
unfolding ones_at
ones_none W at d = refl

pub ones_more : (W : ℕ → ℕ) (at d m : ℕ) → ones_at W at d (suc m) ≡ W at + ones_at W (at + d) d m
unfolding ones_at
ones_more W at d m = refl

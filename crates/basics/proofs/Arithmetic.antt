-- Small facts about numbers that several floors need.
-- Assumes nothing.
use mathlib.Core.Path.{◌≡◌, refl, ap}
use mathlib.Core.Logic.{◌⊎◌, inl, inr, ◌≢◌}
use Prim.Native.Nat.{ℕ, zero, suc, ◌+◌, ◌-◌, ◌*◌, ◌≤◌, ◌<◌}
use native.Mathlib.Omega.{arith}
use native.Mathlib.Nat.{suc-mul, mul-le-mul_right}

-- a bit is 0 or 1
pub bit_cases : (x : ℕ) → x ≤ 1 → (x ≡ 0) ⊎ (x ≡ 1)
bit_cases zero h = inl refl
bit_cases (suc zero) h = inr refl
bit_cases (suc (suc x)) h = absurd (omega arith)

-- a number that is none of 0 to 7 is at least 8; two steps, because `omega` splits at most six times
pub above_3 : (k : ℕ) → k ≢ 0 → k ≢ 1 → k ≢ 2 → k ≢ 3 → 4 ≤ k
above_3 k h₀ h₁ h₂ h₃ = omega arith

pub above_7 : (k : ℕ) → 4 ≤ k → k ≢ 4 → k ≢ 5 → k ≢ 6 → k ≢ 7 → 8 ≤ k
above_7 k l h₄ h₅ h₆ h₇ = omega arith

-- a positive number is the successor of another
pub count_down : (n : ℕ) → 0 < n → n ≡ suc (n - 1)
count_down n h = omega arith

-- places in a table of equal entries: one entry fewer, the next entry, and an entry that ends inside the table
pub one_less : (t k : ℕ) → 0 < t → t * k ≡ k + (t - 1) * k
one_less t k h = omega (arith, ap (λ (x : ℕ). x * k) (count_down t h), suc-mul (t - 1) k)

pub next_place : (at d i : ℕ) → at + d + i * d ≡ at + suc i * d
next_place at d i = omega (arith, suc-mul i d)

pub row_within : (row rows d : ℕ) → row < rows → row * d + d ≤ rows * d
row_within row rows d h = let l = mul-le-mul_right d h in omega (arith, suc-mul row d)

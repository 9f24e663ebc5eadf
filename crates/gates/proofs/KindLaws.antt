-- Laws of the kinds: what holds for each of the eight holds for every kind below 8, and a value depends only on the
-- operands that its kind uses.
-- Assumes nothing.
use mathlib.Core.Path.{◌≡◌, refl, ap, ap₂}
use Prim.Native.Nat.{ℕ, zero, suc, ◌-◌, ◌<◌, min, max}
use native.Mathlib.Omega.{arith}
use Rattle.gates.specs.Open.Kind.{kind_count, operands_of, value_of, differ}

-- a proof for each kind is a proof for every kind below 8
pub each_kind : (P : ℕ → Type 0) → P 0 → P 1 → P 2 → P 3 → P 4 → P 5 → P 6 → P 7 → (k : ℕ) → k < 8 → P k
each_kind P p₀ p₁ p₂ p₃ p₄ p₅ p₆ p₇ zero h = p₀
each_kind P p₀ p₁ p₂ p₃ p₄ p₅ p₆ p₇ (suc zero) h = p₁
each_kind P p₀ p₁ p₂ p₃ p₄ p₅ p₆ p₇ (suc (suc zero)) h = p₂
each_kind P p₀ p₁ p₂ p₃ p₄ p₅ p₆ p₇ (suc (suc (suc zero))) h = p₃
each_kind P p₀ p₁ p₂ p₃ p₄ p₅ p₆ p₇ (suc (suc (suc (suc zero)))) h = p₄
each_kind P p₀ p₁ p₂ p₃ p₄ p₅ p₆ p₇ (suc (suc (suc (suc (suc zero))))) h = p₅
each_kind P p₀ p₁ p₂ p₃ p₄ p₅ p₆ p₇ (suc (suc (suc (suc (suc (suc zero)))))) h = p₆
each_kind P p₀ p₁ p₂ p₃ p₄ p₅ p₆ p₇ (suc (suc (suc (suc (suc (suc (suc zero))))))) h = p₇
each_kind P p₀ p₁ p₂ p₃ p₄ p₅ p₆ p₇ (suc (suc (suc (suc (suc (suc (suc (suc k)))))))) h = absurd (omega arith)

-- two triples of operands agree in the places that a kind uses
Agree : ℕ → ℕ → ℕ → ℕ → ℕ → ℕ → ℕ → Type 0
Agree n a b c a' b' c' = (0 < n → a ≡ a') × (1 < n → b ≡ b') × (2 < n → c ≡ c')

-- a value depends only on the operands that its kind uses
pub value_uses : (k a b c a' b' c' : ℕ) → k < kind_count → (0 < operands_of k → a ≡ a') → (1 < operands_of k → b ≡ b') → (2 < operands_of k → c ≡ c')
    → value_of k a b c ≡ value_of k a' b' c'
unfolding Agree operands_of value_of
value_uses k a b c a' b' c' h ea eb ec =
    each_kind (λ (k : ℕ). Agree (operands_of k) a b c a' b' c' → value_of k a b c ≡ value_of k a' b' c')
    (λ e. refl)
    (λ e. refl)
    (λ e. e.0 (omega arith))
    (λ e. ap (λ (x : ℕ). 1 - x) (e.0 (omega arith)))
    (λ e. ap₂ min (e.0 (omega arith)) (e.1 (omega arith)))
    (λ e. ap₂ max (e.0 (omega arith)) (e.1 (omega arith)))
    (λ e. ap₂ differ (e.0 (omega arith)) (e.1 (omega arith)))
    (λ e. rw (e.0 (omega arith), e.1 (omega arith), e.2 (omega arith)))
    k h (ea, eb, ec)

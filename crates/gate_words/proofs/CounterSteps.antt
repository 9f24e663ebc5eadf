-- The counter's levels, adder by adder, and their lengths.
-- Assumes nothing.
use mathlib.Core.Path.{◌≡◌, ◌∙◌, refl, sym, ap, subst₂}
use mathlib.Core.List.{[], ◌∷◌, ◌++◌, append-nil}
use Prim.Native.Nat.{ℕ, zero, suc, ◌+◌, ◌-◌, ◌*◌, ◌/◌, ◌%◌, ◌<◌, ◌≤◌}
use native.Mathlib.Nat.{suc-mul, mul-add, mul_comm, mul_assoc}
use native.Mathlib.Omega.{arith}
use lib.ListN.{length, length-append}
use borrow.Author.Tests.{eq-eqb, ne_eqb}
use Rattle.gate_words.specs.Adder.{full_adder, half_adder, increment}
use Rattle.gate_words.specs.Gates.{gate}
use Rattle.gate_words.specs.Word.{Below}
use Rattle.gate_words.specs.Counter.{level, adders, level_sum, count_levels, count_digits_as, count_digits, counter, count_size, Countable}
use Rattle.gate_words.proofs.ChoiceSteps.{left_one}
use Rattle.gate_words.proofs.WordSteps.{length_full, length_half, length_increment}

-- after i adders: the next one, and the rest of the level
pub level_two : (n s at d e i m : ℕ) → i < m / 2 → level n s at d e (m - 2 * i) ≡ full_adder n s at (at + d)
    ++ level (n + 3) (n + 1) (at + d + d) d e (m - 2 * (i + 1))
unfolding level
level_two n s at d e i m h = let p : m - 2 * i ≡ suc (suc (m - 2 * (i + 1))) = omega arith in rw p

pub level_one : (n s at d e m : ℕ) → m ≡ 1 → level n s at d e m ≡ half_adder n s at e ++ []
level_one n s at d e m h = ap (level n s at d e) h ∙ one ∙ sym (append-nil (half_adder n s at e))
  where
    one : level n s at d e 1 ≡ half_adder n s at e
    one = unfold level in refl

pub level_none : (n s at d e m : ℕ) → m ≤ 1 → (m ≡ 1 → ⊥) → e ≡ 0 → level n s at d e m ≡ []
unfolding level
level_none n s at d e m l h z = let p : m ≡ 0 = omega arith in rw (p, eq-eqb e 0 z)

pub level_bit : (n s at d e m : ℕ) → m ≤ 1 → (m ≡ 1 → ⊥) → (e ≡ 0 → ⊥) → level n s at d e m ≡ increment n s ++ []
level_bit n s at d e m l h z = bit (omega arith) ∙ sym (append-nil (increment n s))
  where
    bit : m ≡ 0 → level n s at d e m ≡ increment n s
    bit p = unfold level in (rw (p, ne_eqb e 0 z))

pub length_level : (n s at d e m : ℕ) → e ≤ 1 → length (level n s at d e m) ≡ 3 * adders m e
unfolding level adders
length_level n s at d zero zero h = refl
length_level n s at d (suc zero) zero h = length_increment n s
length_level n s at d (suc (suc e)) zero h = absurd (omega arith)
length_level n s at d e (suc zero) h = omega (arith, length_half n s at e)
length_level n s at d e (suc (suc m)) h =
    omega (
      arith,
      length-append (full_adder n s at (at + d)) (level (n + 3) (n + 1) (at + d + d) d e m),
      length_full n s at (at + d),
      length_level (n + 3) (n + 1) (at + d + d) d e m h,
    )

-- after i levels: the next one, and the others; after the last one, nothing
pub count_step : (n at d m x i r : ℕ) → i < r
    → count_levels n at d m x (r - i) ≡ level n at (at + d) d (x % 2) (m - 1)
    ++ count_levels (n + 3 * adders (m - 1) (x % 2)) (n + 2) 3 (adders (m - 1) (x % 2)) (x / 2) (r - (i + 1))
unfolding count_levels
count_step n at d m x i r h = rw (left_one i r h)

pub count_none : (n at d m x i r : ℕ) → r ≤ i → count_levels n at d m x (r - i) ≡ []
unfolding count_levels
count_none n at d m x i r h = let e : r - i ≡ 0 = omega arith in rw e

pub digits_step : (low top n at m x i r : ℕ) → i < r
    → count_digits_as low top n at m x (r - i)
    ≡ (gate low (level_sum n at (m - 1) (x % 2)) 0 0 ∷ [])
    ++ count_digits_as low top (n + 3 * adders (m - 1) (x % 2)) (n + 2) (adders (m - 1) (x % 2)) (x / 2) (r - (i + 1))
unfolding count_digits_as
digits_step low top n at m x i r h = rw (left_one i r h)

pub digits_last : (low top n at m x i r : ℕ) → r ≤ i → count_digits_as low top n at m x (r - i) ≡ (gate top at 0 0 ∷ []) ++ []
unfolding count_digits_as
digits_last low top n at m x i r h = let e : r - i ≡ 0 = omega arith in rw e

pub count_size_step : (m x i r : ℕ) → i < r → count_size m x (r - i) ≡ 3 * adders (m - 1) (x % 2)
    + count_size (adders (m - 1) (x % 2)) (x / 2) (r - (i + 1))
unfolding count_size
count_size_step m x i r h = rw (left_one i r h)

pub count_size_none : (m x i r : ℕ) → r ≤ i → count_size m x (r - i) ≡ 0
unfolding count_size
count_size_none m x i r h = let e : r - i ≡ 0 = omega arith in rw e

pub countable_step : (m x i r : ℕ) → i < r → Countable m x (r - i)
    → (0 < m) × Countable (adders (m - 1) (x % 2)) (x / 2) (r - (i + 1))
countable_step m x i r h c = rw (left_one i r h) at c

pub length_count : (n at d m x r : ℕ) → length (count_levels n at d m x r) ≡ count_size m x r
unfolding count_levels count_size
length_count n at d m x zero = refl
length_count n at d m x (suc r) =
    let t = adders (m - 1) (x % 2) in
    omega (
      arith,
      length-append (level n at (at + d) d (x % 2) (m - 1))
          (count_levels (n + 3 * t) (n + 2) 3 t (x / 2) r),
      length_level n at (at + d) d (x % 2) (m - 1) (omega arith),
      length_count (n + 3 * t) (n + 2) 3 t (x / 2) r,
    )

pub length_digits : (low top n at m x r : ℕ) → length (count_digits_as low top n at m x r) ≡ r + 1
unfolding count_digits_as
length_digits low top n at m x zero = refl
length_digits low top n at m x (suc r) =
    omega (arith, length_digits low top (n + 3 * adders (m - 1) (x % 2)) (n + 2) (adders (m - 1) (x % 2)) (x / 2) r)

pub length_counter : (n at d m x r : ℕ) → length (counter n at d m x r) ≡ count_size m x r + (r + 1)
unfolding counter
length_counter n at d m x r = omega (
  arith,
  length-append (count_levels n at d m x r) (count_digits n at m x r),
  length_count n at d m x r,
  length_digits 2 2 n at m x r,
)

-- once a level is written, its carries are wires
pub below_carries : (n t : ℕ) → Below (n + 3 * t) (n + 2) 3 t
below_carries n zero = tt
below_carries n (suc t) = (omega arith, subst₂ (λ (x y : ℕ). Below x y 3 t) (omega arith) (omega arith) (below_carries (n + 3) t))

pub few_adders : (m e : ℕ) → e ≤ 1 → adders m e ≤ m + 1
unfolding adders
few_adders m e h = omega arith

-- r levels that count at most `most` bits have at most r (2 most + 2) gates
pub count_size_most : (m x r most : ℕ) → m ≤ most → 0 < most → count_size m x r ≤ r * (2 * most + 2)
unfolding count_size adders
count_size_most m x zero most h l = omega arith
count_size_most m x (suc r) most h l =
    omega (arith, count_size_most ((m - 1 + x % 2 + 1) / 2) (x / 2) r most (omega arith) l, suc-mul r (2 * most + 2))

-- the bound of r levels, with one more level's share added, multiplied out
pub levels_product : (r n : ℕ) → r * (2 * n + 2) + 2 * n + 2 ≡ 2 * (n * suc r) + 2 * suc r
levels_product r n =
    let whole : suc r * (2 * n + 2) ≡ suc r * (2 * n) + suc r * 2 = mul-add (suc r) (2 * n) 2 in
    let first : suc r * (2 * n) ≡ 2 * (n * suc r) = mul_comm (suc r) (2 * n) ∙ mul_assoc 2 n (suc r) in
    omega (arith, suc-mul r (2 * n + 2))

-- wires a stride apart are below n if the last one is
pub below_stride : (n at d m : ℕ) → at + m * d < n + d → Below n at d m
below_stride n at d zero h = tt
below_stride n at d (suc m) h =
    let e = suc-mul m d in
    (omega arith, below_stride n (at + d) d m (omega arith))

pub suc_not_zero : {k t : ℕ} → k ≡ suc t → k ≡ 0 → ⊥
suc_not_zero p q = omega arith

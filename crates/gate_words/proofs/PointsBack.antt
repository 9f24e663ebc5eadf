-- Every block is a well-formed list: its operands are earlier wires if the operands that it was given are.
-- Assumes nothing.
use mathlib.Core.Path.{◌≡◌, refl, sym, subst}
use mathlib.Core.Bool.{Bool, true, false, cond}
use mathlib.Core.List.{List, [], ◌∷◌, ◌++◌}
use Prim.Native.Nat.{ℕ, zero, suc, ◌+◌, ◌-◌, ◌*◌, ◌/◌, ◌%◌, ◌≤◌, ◌<◌}
use native.Mathlib.Numerals.{add-one}
use native.Mathlib.Omega.{arith}
use lib.Dec.{T, eqb}
use lib.ListN.{length}
use borrow.Author.Tests.{eq-eqb, ne_eqb}
use Rattle.gates.specs.Kind.{operands_of, kind_count}
use Rattle.gates.specs.Gate.{Gate}
use Rattle.gates.specs.Test.{good_gate}
use Rattle.gates.proofs.Laws.{AllGood, good_none, good_one, good_two, good_three, good_append, operand_counts_lem}
use Rattle.gate_words.specs.Gates.{constant, copy_of, not_of, and_of, or_of, xor_of, mux_of}
use Rattle.gate_words.specs.Word.{Below}
use Rattle.gate_words.specs.Adder.{full_adder, half_adder, increment}
use Rattle.gate_words.specs.Choice.{choose, masked, chain_of}
use Rattle.gate_words.specs.Comparison.{first_digit, compare_words, differences, above}
use Rattle.gate_words.specs.Counter.{level, adders, level_sum, count_levels, count_digits_as, count_digits, counter, count_size, Countable}
use Rattle.gate_words.proofs.Places.{below_more, below_first}
use Rattle.gate_words.proofs.Emitting.{bit_none_used}
use Rattle.gate_words.proofs.WordSteps.{length_full}
use Rattle.gate_words.proofs.CounterSteps.{length_level, length_count, below_carries, suc_not_zero}

pub good_constant : (n v : ℕ) → T (good_gate n (constant v))
good_constant n v = good_none n (v % 2) (omega arith) (bit_none_used (v % 2) (omega arith))

pub good_copy : (n a : ℕ) → a < n → T (good_gate n (copy_of a))
good_copy n a h = good_one n 2 a (omega arith) operand_counts_lem.2 h

pub good_not : (n a : ℕ) → a < n → T (good_gate n (not_of a))
good_not n a h = good_one n 3 a (omega arith) operand_counts_lem.3 h

pub good_and : (n x y : ℕ) → x < n → y < n → T (good_gate n (and_of x y))
good_and n x y h k = good_two n 4 x y (omega arith) operand_counts_lem.4 h k

pub good_or : (n x y : ℕ) → x < n → y < n → T (good_gate n (or_of x y))
good_or n x y h k = good_two n 5 x y (omega arith) operand_counts_lem.5 h k

pub good_xor : (n x y : ℕ) → x < n → y < n → T (good_gate n (xor_of x y))
good_xor n x y h k = good_two n 6 x y (omega arith) operand_counts_lem.6 h k

pub good_mux : (n f x y : ℕ) → f < n → x < n → y < n → T (good_gate n (mux_of f x y))
good_mux n f x y l h k = good_three n 7 f x y (omega arith) operand_counts_lem.7 l h k

-- a block of k gates, and the gates after it
pub behind : (n k : ℕ) (gs hs : List Gate) → length gs ≡ k → AllGood n gs → AllGood (n + k) hs → AllGood n (gs ++ hs)
behind n k gs hs e p q = good_append n gs hs p (subst (λ (j : ℕ). AllGood (n + j) hs) (sym e) q)

next : (n : ℕ) (gs : List Gate) → AllGood (n + 1) gs → AllGood (suc n) gs
next n gs p = subst (λ (j : ℕ). AllGood j gs) (add-one n) p

pub full_good : (n s u v : ℕ) → s < n → u < n → v < n → AllGood n (full_adder n s u v)
unfolding full_adder
full_good n s u v hs hu hv = (
  good_xor n s u hs hu,
  (
    good_xor (suc n) n v (omega arith) (omega arith),
    (good_mux (suc (suc n)) n v s (omega arith) (omega arith) (omega arith), tt),
  ),
)

-- of two lists that point back, either one does
pub good_either : (n : ℕ) (b : Bool) (xs ys : List Gate) → AllGood n xs → AllGood n ys → AllGood n (cond b xs ys)
good_either n true xs ys p q = p
good_either n false xs ys p q = q

pub half_good : (n s u e : ℕ) → s < n → u < n → AllGood n (half_adder n s u e)
unfolding half_adder
half_good n s u e hs hu =
    good_either n (eqb e 0) (xor_of s u ∷ copy_of n ∷ and_of s u ∷ []) (xor_of s u ∷ not_of n ∷ or_of s u ∷ [])
    (good_xor n s u hs hu, (good_copy (suc n) n (omega arith), (good_and (suc (suc n)) s u (omega arith) (omega arith), tt)))
    (good_xor n s u hs hu, (good_not (suc n) n (omega arith), (good_or (suc (suc n)) s u (omega arith) (omega arith), tt)))

pub increment_good : (n s : ℕ) → s < n → AllGood n (increment n s)
unfolding increment
increment_good n s hs = (good_not n s hs, (good_copy (suc n) n (omega arith), (good_copy (suc (suc n)) s (omega arith), tt)))

pub choose_good : (n f x y w : ℕ) → f < n → x + w ≤ n → y + w ≤ n → AllGood n (choose f x y w)
unfolding choose
choose_good n f x y zero hf hx hy = tt
choose_good n f x y (suc w) hf hx hy = (
  good_mux n f x y hf (omega arith) (omega arith),
  choose_good (suc n) f (x + 1) (y + 1) w (omega arith) (omega arith) (omega arith),
)

pub masked_good : (n f x w : ℕ) → f < n → x + w ≤ n → AllGood n (masked f x w)
unfolding masked
masked_good n f x zero hf hx = tt
masked_good n f x (suc w) hf hx = (good_and n f x hf (omega arith), masked_good (suc n) f (x + 1) w (omega arith) (omega arith))

pub chain_good : (n kind s at d m : ℕ) → kind < kind_count → operands_of kind ≡ 2 → s < n → Below n at d m → AllGood n (chain_of kind n s at d m)
unfolding chain_of
chain_good n kind s at d zero k e hs bl = tt
chain_good n kind s at d (suc m) k e hs bl = (
  good_two n kind s at k e hs bl.0,
  next n (chain_of kind (n + 1) n (at + d) d m)
      (chain_good (n + 1) kind n (at + d) d m k e (omega arith) (below_more n (n + 1) (at + d) d m (omega arith) bl.1)),
)

pub any_good : (n s at d m : ℕ) → s < n → Below n at d m → AllGood n (chain_of 5 n s at d m)
any_good n s at d m hs bl = chain_good n 5 s at d m (omega arith) operand_counts_lem.5 hs bl

pub first_digit_good : (n x y : ℕ) → x < n → y < n → AllGood n (first_digit n x y)
unfolding first_digit
first_digit_good n x y hx hy = (
  good_xor n x y hx hy,
  (
    good_and (suc n) x n (omega arith) (omega arith),
    (good_xor (suc (suc n)) n (n + 1) (omega arith) (omega arith), tt),
  ),
)

pub differences_good : (n x y w : ℕ) → x + w ≤ n → y + w ≤ n → AllGood n (differences x y w)
unfolding differences
differences_good n x y zero hx hy = tt
differences_good n x y (suc w) hx hy =
    (good_xor n x y (omega arith) (omega arith), differences_good (suc n) (x + 1) (y + 1) w (omega arith) (omega arith))

pub above_good : (n f x s w : ℕ) → f + w ≤ n → x + w ≤ n → s < n → AllGood n (above n f x s w)
unfolding above
above_good n f x s zero hf hx hs = tt
above_good n f x s (suc w) hf hx hs = (
  good_mux n f x s (omega arith) (omega arith) hs,
  next n (above (n + 1) (f + 1) (x + 1) n w)
      (above_good (n + 1) (f + 1) (x + 1) n w (omega arith) (omega arith) (omega arith)),
)

pub compare_good : (n x y up down w : ℕ) → x + w ≤ n → y + w ≤ n → up < n → down < n → AllGood n (compare_words n x y up down w)
unfolding compare_words
compare_good n x y up down zero hx hy hu hd = tt
compare_good n x y up down (suc w) hx hy hu hd =
    let three : n + 3 ≡ suc (suc (suc n)) = omega arith in (
      good_xor n x y (omega arith) (omega arith),
      (
        good_mux (suc n) n x up (omega arith) (omega arith) (omega arith),
        (
          good_mux (suc (suc n)) n y down (omega arith) (omega arith) (omega arith),
          subst (λ (j : ℕ). AllGood j (compare_words (n + 3) (x + 1) (y + 1) (n + 1) (n + 2) w)) three
              (compare_good (n + 3) (x + 1) (y + 1) (n + 1) (n + 2) w (omega arith) (omega arith) (omega arith) (omega arith)),
        ),
      ),
    )

pub level_good : (n s at d e m : ℕ) → s < n → Below n at d m → AllGood n (level n s at d e m)
unfolding level
level_good n s at d e zero hs bl = either (eqb e 0)
  where
    either : (b : Bool) → AllGood n (cond b [] (increment n s))
    either true = tt
    either false = increment_good n s hs
level_good n s at d e (suc zero) hs bl = half_good n s at e hs bl.0
level_good n s at d e (suc (suc m)) hs bl =
    behind n 3 (full_adder n s at (at + d)) (level (n + 3) (n + 1) (at + d + d) d e m) (length_full n s at (at + d))
    (full_good n s at (at + d) hs bl.0 bl.1.0)
    (level_good (n + 3) (n + 1) (at + d + d) d e m (omega arith) (below_more n (n + 3) (at + d + d) d m (omega arith) bl.1.1))

pub count_levels_good : (n at d m x r : ℕ) → Below n at d m → Countable m x r → AllGood n (count_levels n at d m x r)
unfolding count_levels
count_levels_good n at d m x zero bl k = tt
count_levels_good n at d m x (suc r) bl k =
    let t = adders (m - 1) (x % 2) in
    let one : m ≡ suc (m - 1) = omega (arith, k.0) in
    let bl' : Below n at d (suc (m - 1)) = subst (Below n at d) one bl in
    behind n (3 * t) (level n at (at + d) d (x % 2) (m - 1)) (count_levels (n + 3 * t) (n + 2) 3 t (x / 2) r)
    (length_level n at (at + d) d (x % 2) (m - 1) (omega arith))
    (level_good n at (at + d) d (x % 2) (m - 1) bl'.0 bl'.1)
    (count_levels_good (n + 3 * t) (n + 2) 3 t (x / 2) r (below_carries n t) k.1)

-- the sum of a level is one of its wires, or the wire that it starts from
sum_below : (n s m e q : ℕ) → s < q → n + 3 * adders m e ≤ q → level_sum n s m e < q
unfolding level_sum
sum_below n s m e q hs h = go (adders m e) refl
  where
    go : (t : ℕ) → adders m e ≡ t → cond (eqb (adders m e) 0) s (n + 3 * adders m e - 2) < q
    go zero p = rw (eq-eqb (adders m e) 0 p) hs
    go (suc t) p = rw (ne_eqb (adders m e) 0 (λ z. suc_not_zero p z)) (omega arith)

-- a counter counts at least one bit
pub countable_some : (m x r : ℕ) → Countable m x r → 0 < m
countable_some m x zero k = omega (arith, k.0)
countable_some m x (suc r) k = k.0

pub count_digits_good : (low top n at m x r q : ℕ) → low < kind_count → operands_of low ≡ 1 → top < kind_count → operands_of top ≡ 1
    → at < q → n + count_size m x r ≤ q → Countable m x r
    → AllGood q (count_digits_as low top n at m x r)
unfolding count_digits_as count_size
count_digits_good low top n at m x zero q l₁ l₂ t₁ t₂ ha h k = (good_one q top at t₁ t₂ ha, tt)
count_digits_good low top n at m x (suc r) q l₁ l₂ t₁ t₂ ha h k =
    let t = adders (m - 1) (x % 2) in (
      good_one q low (level_sum n at (m - 1) (x % 2)) l₁ l₂ (sum_below n at (m - 1) (x % 2) q ha (omega arith)),
      count_digits_good low top (n + 3 * t) (n + 2) t (x / 2) r (suc q) l₁ l₂ t₁ t₂
          (omega (arith, countable_some t (x / 2) r k.1)) (omega arith) k.1,
    )

pub counter_good : (n at d m x r : ℕ) → Below n at d m → Countable m x r → AllGood n (counter n at d m x r)
unfolding counter
counter_good n at d m x r bl k =
    behind n (count_size m x r) (count_levels n at d m x r) (count_digits n at m x r) (length_count n at d m x r)
    (count_levels_good n at d m x r bl k)
    (count_digits_good 2 2 n at m x r (n + count_size m x r) (omega arith) operand_counts_lem.2 (omega arith)
    operand_counts_lem.2 (omega (arith, below_first n at d m (countable_some m x r k) bl)) (omega arith) k)

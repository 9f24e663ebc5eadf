-- Bits modulo 2.
-- Assumes nothing.
use mathlib.Core.Logic.{◌≢◌, ⊎_elim}
use mathlib.Core.Path.{◌≡◌, ◌∙◌, refl, sym, ap}
use Prim.Native.Nat.{ℕ, zero, suc, ◌+◌, ◌*◌, ◌/◌, ◌%◌, ◌≤◌}
use native.Mathlib.Omega.{arith}
use Rattle.basics.proofs.Cases.{below_or_not}
use Rattle.trustee_shares.specs.Shares.{entered, opened, sum_of}
use Rattle.trustee_shares.proofs.Exchange.{reduced}

-- an even factor makes a product even; an odd one keeps the parity of the other
even_times : (h b : ℕ) → 2 * h * b % 2 ≡ 0
even_times h zero = omega arith
even_times h (suc b) = omega (arith, even_times h b)

odd_times : (h b : ℕ) → (2 * h + 1) * b % 2 ≡ b % 2
odd_times h zero = omega arith
odd_times h (suc b) = omega (arith, odd_times h b)

times_even : (a b : ℕ) → a % 2 ≡ 0 → 0 ≡ a * b % 2
times_even a b e =
    let s : a ≡ 2 * (a / 2) = omega arith in
    sym (even_times (a / 2) b) ∙ ap (λ (n : ℕ). n * b % 2) (sym s)

times_odd : (a b : ℕ) → a % 2 ≢ 0 → b % 2 ≡ a * b % 2
times_odd a b n =
    let s : a ≡ 2 * (a / 2) + 1 = omega arith in
    sym (odd_times (a / 2) b) ∙ ap (λ (n : ℕ). n * b % 2) (sym s)

-- factors may be taken modulo 2
pub times_mods : (a b : ℕ) → a % 2 * (b % 2) ≡ a * b % 2
times_mods a b =
    ⊎_elim
    (λ l.
    let e : a % 2 ≡ 0 = omega arith in
    ap (λ (n : ℕ). n * (b % 2)) e ∙ omega (arith, times_even a b e))
    (λ l.
    let e : a % 2 ≡ 1 = omega arith in
    ap (λ (n : ℕ). n * (b % 2)) e ∙ omega (arith, times_odd a b (λ z. omega arith)))
    (below_or_not (a % 2) 1)

-- a public bit may be taken modulo 2
pub entered_mod : (p x : ℕ) → entered p (x % 2) % 2 ≡ entered p x % 2
unfolding entered
entered_mod zero x = omega arith
entered_mod (suc p) x = refl

-- terms may be taken modulo 2
pub plus_mod : (r m x s a : ℕ) → m % 2 ≡ s % 2 → x % 2 ≡ a % 2 → r ≡ (m + x) % 2 → r ≡ (s + a) % 2
plus_mod r m x s a e f h = omega arith

pub three_mods : (a b z : ℕ) → (a % 2 + b % 2 + z % 2) % 2 ≡ (a + b + z) % 2
three_mods a b z =
    let u = a % 2 + b % 2 in
    let e : u % 2 ≡ (a + b) % 2 = omega arith in
    let f : z % 2 % 2 ≡ z % 2 = omega arith in
    plus_mod ((u + z % 2) % 2) u (z % 2) (a + b) z e f refl

-- the sum for a trustee's bit of a product, with each step taken modulo 2
pub product_sum : (p s a b c x y z e d m r : ℕ) → x ≡ a % 2 → y ≡ b % 2 → z ≡ c % 2 → d ≡ (s + x) % 2 → m
    ≡ (d + y) % 2 → e ≡ entered p z → r ≡ (m + e) % 2
    → r ≡ (s + a + b + entered p c) % 2
product_sum p s a b c x y z e d m r hx hy hz hd hm he hr =
    let k : e % 2 ≡ entered p c % 2 = ap (λ (n : ℕ). n % 2) he ∙ ap (λ (n : ℕ). entered p n % 2) hz ∙ entered_mod p c in
    let f : d ≡ (s + a) % 2 = plus_mod d s x s a refl (reduced x a hx) hd in
    let g : m ≡ (s + a + b) % 2 = plus_mod m d y (s + a) b (reduced d (s + a) f) (reduced y b hy) hm in
    plus_mod r m e (s + a + b) (entered p c) (reduced m (s + a + b) g) k hr

-- opening with one more trustee
pub opened_more : (t : ℕ) (f : ℕ → ℕ) (sum v r : ℕ) → sum ≡ opened t f → v ≡ f t → r ≡ (sum + v) % 2 → r ≡ opened (suc t) f
unfolding opened sum_of
opened_more t f sum v r e h k = omega arith

pub opened_none : (f : ℕ → ℕ) → 0 ≡ opened 0 f
unfolding opened sum_of
opened_none f = refl

pub opened_bit : (t : ℕ) (f : ℕ → ℕ) → opened t f ≤ 1
unfolding opened
opened_bit t f = omega arith

-- the product of two bits is a bit
pub bit_times : (a b : ℕ) → a ≤ 1 → b ≤ 1 → a * b % 2 ≡ a * b
bit_times zero b h k = omega arith
bit_times (suc zero) b h k = omega arith
bit_times (suc (suc a)) b h k = absurd (omega arith)

-- Blocks with one gate for each digit, as a first digit and the rest; and their lengths.
-- Assumes nothing.
use mathlib.Core.Path.{◌≡◌, refl, sym, ap}
use mathlib.Core.List.{[], ◌∷◌, ◌++◌}
use Prim.Native.Nat.{ℕ, zero, suc, ◌+◌, ◌-◌, ◌<◌, ◌≤◌}
use native.Mathlib.Nat.{add-zero}
use native.Mathlib.Omega.{arith}
use lib.ListN.{length}
use Rattle.gates.specs.Kind.{operands_of}
use Rattle.gate_words.specs.declared.writer.Writer.{Writer}
use Rattle.gate_words.specs.inner.Ready.{WiresReady, ChainReady}
use Rattle.gate_words.specs.Gates.{gate, and_of, mux_of}
use Rattle.gate_words.specs.Choice.{choose, masked, chain_of, chain_end}

-- after one digit, one less is left
pub left_one : (i n : ℕ) → i < n → n - i ≡ suc (n - (i + 1))
left_one i n h = omega arith

pub next_place : (x i : ℕ) → x + i + 1 ≡ x + (i + 1)
next_place x i = omega arith

pub choose_step : (f x y i n : ℕ) → i < n → choose f (x + i) (y + i) (n - i) ≡ (mux_of f (x + i) (y + i) ∷ [])
    ++ choose f (x + (i + 1)) (y + (i + 1)) (n - (i + 1))
unfolding choose
choose_step f x y i n h = rw (left_one i n h, next_place x i, next_place y i)

pub masked_step : (f x i n : ℕ) → i < n → masked f (x + i) (n - i) ≡ (and_of f (x + i) ∷ []) ++ masked f (x + (i + 1)) (n - (i + 1))
unfolding masked
masked_step f x i n h = rw (left_one i n h, next_place x i)

pub length_choose : (f x y w : ℕ) → length (choose f x y w) ≡ w
unfolding choose
length_choose f x y zero = refl
length_choose f x y (suc w) = ap suc (length_choose f (x + 1) (y + 1) w)

pub length_masked : (f x w : ℕ) → length (masked f x w) ≡ w
unfolding masked
length_masked f x zero = refl
length_masked f x (suc w) = ap suc (length_masked f (x + 1) w)

pub length_chain : (kind n s at d m : ℕ) → length (chain_of kind n s at d m) ≡ m
unfolding chain_of
length_chain kind n s at d zero = refl
length_chain kind n s at d (suc m) = ap suc (length_chain kind (n + 1) n (at + d) d m)

pub chain_step : (kind n s at d i m : ℕ) → i < m → chain_of kind n s at d (m - i) ≡ (gate kind s at 0 ∷ [])
    ++ chain_of kind (n + 1) n (at + d) d (m - (i + 1))
unfolding chain_of
chain_step kind n s at d i m h = rw (left_one i m h)

-- after the last digit, nothing is left
pub choose_none : (f x y i n : ℕ) → n ≤ i → choose f x y (n - i) ≡ []
unfolding choose
choose_none f x y i n h = let e : n - i ≡ 0 = omega arith in rw e

pub masked_none : (f x i n : ℕ) → n ≤ i → masked f x (n - i) ≡ []
unfolding masked
masked_none f x i n h = let e : n - i ≡ 0 = omega arith in rw e

pub chain_none : (kind n s at d i m : ℕ) → m ≤ i → chain_of kind n s at d (m - i) ≡ []
unfolding chain_of
chain_none kind n s at d i m h = let e : m - i ≡ 0 = omega arith in rw e

-- a kind with two operands can be chained
pub chain_ready : (w : Writer) (kind first stride count : ℕ) → operands_of kind ≡ 2 → WiresReady w count first stride count
    → ChainReady w kind first stride count
chain_ready w kind first stride count e r = record { room = r.room; below = r.below; near = r.near; two = e }

-- a chain ends where the chain after its first gate ends
pub chain_next : (n s m : ℕ) → chain_end (n + 1) n m ≡ chain_end n s (suc m)
unfolding chain_end
chain_next n s zero = sym (add-zero n)
chain_next n s (suc m) = omega arith

-- Laws of truth values. The first ones are for tests that the code joins by `&&` or `||`: they give the flag r after
-- the two branches.
-- Assumes nothing.
use mathlib.Core.Path.{◌≡◌, ◌∙◌, refl, sym, ap}
use mathlib.Core.Bool.{Bool, true, false, cond, ◌&&◌, ◌||◌}
use mathlib.Core.Logic.{◌⊎◌, inl, inr}
use Prim.Native.Nat.{ℕ, ◌≤◌}
use mir.Val.{bool_byte}
use native.Mathlib.Omega.{arith}
use lib.Dec.{T}

-- a truth value as a bit, as `from` makes it
pub bit_is : (t : Bool) → bool_byte t ≡ cond {A = ℕ} t 1 0
bit_is true = refl
bit_is false = refl

-- the first test held, so the flag is the second test
pub and_taken : (t u r : Bool) → t ≡ true → r ≡ u → r ≡ (t && u)
and_taken t u r h e = e ∙ ap (λ (x : Bool). x && u) (sym h)

-- the first test failed, and the flag is its outcome
pub and_left : (t u r : Bool) → t ≡ false → r ≡ t → r ≡ (t && u)
and_left t u r h e = e ∙ h ∙ ap (λ (x : Bool). x && u) (sym h)

-- if a conjunction holds, so do both its parts
pub and_first : (t u : Bool) → (t && u) ≡ true → t ≡ true
and_first true u e = refl
and_first false u e = e

pub and_second : (t u : Bool) → (t && u) ≡ true → u ≡ true
and_second true u e = e
and_second false true e = refl
and_second false false e = e

pub and_both : (t u : Bool) → t ≡ true → u ≡ true → (t && u) ≡ true
and_both true u h e = e
and_both false u h e = h

-- if a disjunction holds, so does one of its parts
pub or_either : (t u : Bool) → (t || u) ≡ true → (t ≡ true) ⊎ (u ≡ true)
or_either true u e = inl refl
or_either false u e = inr e

pub or_first : (t u : Bool) → t ≡ true → (t || u) ≡ true
or_first t u e = ap (λ (x : Bool). x || u) e

pub or_second : (t u : Bool) → u ≡ true → (t || u) ≡ true
or_second true u e = refl
or_second false u e = e

-- a test that never holds is false
pub never_true : (t : Bool) → (t ≡ true → ⊥) → t ≡ false
never_true true h = absurd (h refl)
never_true false h = refl

-- a test that holds, as a fact and as an equation
pub T_true : (t : Bool) → T t → t ≡ true
T_true true h = refl
T_true false h = absurd h

pub true_T : (t : Bool) → t ≡ true → T t
true_T t e = rw e tt

-- a conjunction fails if one of its parts does
pub and_first_fails : (t u : Bool) → t ≡ false → (t && u) ≡ false
and_first_fails t u e = ap (λ (x : Bool). x && u) e

pub and_second_fails : (t u : Bool) → u ≡ false → (t && u) ≡ false
and_second_fails true u e = e
and_second_fails false u e = refl

-- two cases: the test holds, or it fails
pub either : (t : Bool) {A : Type 0} → (t ≡ true → A) → (t ≡ false → A) → A
either true yes' no' = yes' refl
either false yes' no' = no' refl

-- the two truth values differ
pub absurd_flag : {A : Type 0} → false ≡ true → A
absurd_flag h = let z : ◌≡◌ {A = ℕ} 0 1 = cc in absurd (omega arith)

-- a test as a bit is at most 1
pub bit_most : (t : Bool) → cond {A = ℕ} t 1 0 ≤ 1
bit_most true = omega arith
bit_most false = omega arith

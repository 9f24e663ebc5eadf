-- A table of numbers as a list of gates.
-- Assumes nothing.
use mathlib.Core.Path.{◌≡◌, ◌∙◌, refl, sym, ap}
use mathlib.Core.List.{List, [], ◌∷◌}
use Prim.Native.Nat.{ℕ, zero, suc, ◌+◌, ◌*◌, ◌/◌, ◌<◌}
use native.Mathlib.Nat.{not-suc-le-zero, le_of_suc-le-suc}
use native.Mathlib.Numerals.{add-four}
use native.Mathlib.Omega.{arith}
use lib.ListN.{length, get_or, drop}
use lib.Seq.{drop-cons}
use Rattle.gates.specs.Open.Gate.{Gate, gates_of, gate_at}

pub length_gates : (t : List ℕ) → length (gates_of t) ≡ length t / 4
unfolding gates_of
length_gates [] = refl
length_gates (k ∷ []) = refl
length_gates (k ∷ a ∷ []) = refl
length_gates (k ∷ a ∷ b ∷ []) = refl
length_gates (k ∷ a ∷ b ∷ c ∷ t) = omega (arith, length_gates t)

-- the first gate's four numbers shift the places of the others by four
further : (k a b c : ℕ) (t : List ℕ) (i j : ℕ) → j ≡ i + 4 → get_or (k ∷ a ∷ b ∷ c ∷ t) j 0 ≡ get_or t i 0
further k a b c t i j e = rw (e, add-four i)

next_gate : (k a b c : ℕ) (t : List ℕ) (g : ℕ) → gate_at (k ∷ a ∷ b ∷ c ∷ t) (suc g) ≡ gate_at t g
unfolding gate_at
next_gate k a b c t g =
    let p = further k a b c t (4 * g) (4 * suc g) (omega arith) in
    let q = further k a b c t (4 * g + 1) (4 * suc g + 1) (omega arith) in
    let r = further k a b c t (4 * g + 2) (4 * suc g + 2) (omega arith) in
    let s = further k a b c t (4 * g + 3) (4 * suc g + 3) (omega arith) in
    λ i. record { kind = p i; a = q i; b = r i; c = s i }

pub gate_at_lem : (t : List ℕ) (g : ℕ) (d : Gate) → g < length (gates_of t) → get_or (gates_of t) g d ≡ gate_at t g
unfolding gates_of gate_at
gate_at_lem [] g d h = absurd (not-suc-le-zero h)
gate_at_lem (k ∷ []) g d h = absurd (not-suc-le-zero h)
gate_at_lem (k ∷ a ∷ []) g d h = absurd (not-suc-le-zero h)
gate_at_lem (k ∷ a ∷ b ∷ []) g d h = absurd (not-suc-le-zero h)
gate_at_lem (k ∷ a ∷ b ∷ c ∷ t) zero d h = refl
gate_at_lem (k ∷ a ∷ b ∷ c ∷ t) (suc g) d h = gate_at_lem t g d (le_of_suc-le-suc h) ∙ sym (next_gate k a b c t g)

-- the gates from g on begin with gate g
pub gates_from : (t : List ℕ) (g : ℕ) → g < length (gates_of t) → drop g (gates_of t) ≡ gate_at t g ∷ drop (suc g) (gates_of t)
gates_from t g h =
    drop-cons (gates_of t) g (gate_at t g) h ∙ ap (λ (x : Gate). x ∷ drop (suc g) (gates_of t)) (gate_at_lem t g (gate_at t g) h)

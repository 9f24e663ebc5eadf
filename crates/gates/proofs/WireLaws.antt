-- Laws of wires: how many there are, that a wire keeps its value, and lists put one after the other.
-- Assumes nothing.
use mathlib.Core.Path.{◌≡◌, ◌∙◌, refl}
use mathlib.Core.List.{List, [], ◌∷◌, ◌++◌}
use Prim.Native.Nat.{ℕ, ◌+◌, ◌<◌}
use native.Mathlib.Omega.{arith}
use lib.ListN.{length, get_or, length-append, get_or-append}
use Rattle.gates.specs.Open.Gate.{Gate}
use Rattle.gates.specs.Open.Wires.{wire, value, wires_of}
use Rattle.gates.proofs.KindLaws.{value_uses}
use Rattle.gates.proofs.Goodness.{GoodGate}

-- each gate makes one wire
pub length_wires : (ws : List ℕ) (gs : List Gate) → length (wires_of ws gs) ≡ length ws + length gs
unfolding wires_of
length_wires ws [] = omega arith
length_wires ws (g ∷ gs) = omega (arith, length_wires (ws ++ (value ws g ∷ [])) gs, length-append ws (value ws g ∷ []))

-- the wires of two lists, one after the other
pub wires_append : (ws : List ℕ) (gs hs : List Gate) → wires_of ws (gs ++ hs) ≡ wires_of (wires_of ws gs) hs
unfolding wires_of
wires_append ws [] hs = refl
wires_append ws (g ∷ gs) hs = wires_append (ws ++ (value ws g ∷ [])) gs hs

-- a wire once made keeps its value
pub wires_keep : (ws : List ℕ) (gs : List Gate) (i : ℕ) → i < length ws → get_or (wires_of ws gs) i 0 ≡ get_or ws i 0
unfolding wires_of
wires_keep ws [] i h = refl
wires_keep ws (g ∷ gs) i h =
    wires_keep (ws ++ (value ws g ∷ [])) gs i (omega (arith, length-append ws (value ws g ∷ [])))
    ∙ get_or-append ws (value ws g ∷ []) 0 i h

-- a good gate has the same value on two wire tables that agree below its own wire
pub same_value : (ws vs : List ℕ) (own : ℕ) (g : Gate) → GoodGate own g
    → ((i : ℕ) → i < own → get_or ws i 0 ≡ get_or vs i 0) → value ws g ≡ value vs g
unfolding value wire
same_value ws vs own g good agree =
    value_uses g.kind (get_or ws g.a 0) (get_or ws g.b 0) (get_or ws g.c 0) (get_or vs g.a 0)
    (get_or vs g.b 0) (get_or vs g.c 0) good.known
    (λ u. agree g.a (good.a_below u))
    (λ u. agree g.b (good.b_below u))
    (λ u. agree g.c (good.c_below u))

-- Numbers and lines stored one after the other.
-- Assumes nothing.
use mathlib.Core.Path.{◌≡◌, ◌∙◌, sym, ap}
use mathlib.Core.List.{List, [], ◌∷◌, ◌++◌}
use Prim.Native.Nat.{ℕ, suc, ◌+◌, ◌≤◌, ◌<◌}
use native.Mathlib.Nat.{zero-add}
use native.Mathlib.Numerals.{add-one, add-two, add-three, add-four}
use native.Mathlib.Omega.{arith}
use lib.ListN.{length, set, drop, length-set, drop_of_length-le}
use lib.Seq.{sets, sets-eq}
use Rattle.gates.specs.Gate.{Gate, gates_of, gate_at}
use Rattle.gates.proofs.Table.{gates_from}
use Rattle.text_lines.specs.Line.{line_of}
use Rattle.text.specs.Text.{text_of}

-- storing four numbers one after the other
pub put_four : (l : List ℕ) (i k a b c : ℕ) (rest : List ℕ)
    → sets (set (set (set (set l i k) (i + 1) a) (i + 2) b) (i + 3) c) (i + 4) rest ≡ sets l i (k ∷ a ∷ b ∷ c ∷ rest)
put_four l i k a b c rest = rw (add-one i, add-two i, add-three i, add-four i)

pub long_four : (l : List ℕ) (i k a b c : ℕ) → length (set (set (set (set l i k) (i + 1) a) (i + 2) b) (i + 3) c) ≡ length l
long_four l i k a b c = simp length-set

-- the text from gate g on begins with the line of gate g, the one that was read
pub text_from : (t : List ℕ) (g : ℕ) (x : Gate) → x ≡ gate_at t g → g < length (gates_of t)
    → text_of (drop g (gates_of t)) ≡ line_of x ++ text_of (drop (suc g) (gates_of t))
unfolding text_of
text_from t g x e h = ap text_of (gates_from t g h) ∙ ap (λ (y : Gate). line_of y ++ text_of (drop (suc g) (gates_of t))) (sym e)

pub text_end : (t : List ℕ) (g : ℕ) → length (gates_of t) ≤ g → text_of (drop g (gates_of t)) ≡ []
unfolding text_of
text_end t g h = rw (drop_of_length-le (gates_of t) {i = g} h)

-- storing from the start
pub sets_front : (l vs : List ℕ) → length vs ≤ length l → sets l 0 vs ≡ vs ++ drop (length vs) l
sets_front l vs h = let z = zero-add (length vs) in sets-eq vs l 0 (omega arith) ∙ ap (λ (k : ℕ). vs ++ drop k l) z

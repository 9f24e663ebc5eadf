-- The conditional gates of a list, counted.
-- Assumes nothing.
use mathlib.Core.Path.{◌≡◌, refl, sym}
use mathlib.Core.Bool.{Bool, true, false, cond}
use mathlib.Core.List.{List, [], ◌∷◌, ◌++◌}
use Prim.Native.Nat.{ℕ, ◌+◌, ◌≤◌}
use native.Mathlib.Nat.{zero-add}
use native.Mathlib.Numerals.{one-add}
use native.Mathlib.Omega.{arith}
use lib.ListN.{length}
use Rattle.gates.specs.Open.Kind.{conditional_of}
use Rattle.gates.specs.Open.Gate.{Gate}
use Rattle.gates.specs.Open.Board.{conditionals, conditional_count}
use Rattle.basics.proofs.Flags.{bit_most}

-- a gate counts if its kind has the mark
pub count_cons : (g : Gate) (gs : List Gate) → conditional_count (g ∷ gs) ≡ cond (conditional_of g.kind) 1 0 + conditional_count gs
unfolding conditional_count conditionals
count_cons g gs = go (conditional_of g.kind)
  where
    go : (t : Bool) → length (cond t (g ∷ conditionals gs) (conditionals gs)) ≡ cond t 1 0 + length (conditionals gs)
    go true = sym (one-add (length (conditionals gs)))
    go false = sym (zero-add (length (conditionals gs)))

pub count_nil : conditional_count [] ≡ 0
unfolding conditional_count conditionals
count_nil = refl

-- the counts of two lists, one after the other, add up
pub count_append : (gs hs : List Gate) → conditional_count (gs ++ hs) ≡ conditional_count gs + conditional_count hs
count_append [] hs = omega (arith, count_nil)
count_append (g ∷ gs) hs = omega (arith, count_cons g (gs ++ hs), count_cons g gs, count_append gs hs)

pub count_one : (g : Gate) → conditional_count (g ∷ []) ≡ cond (conditional_of g.kind) 1 0
count_one g = omega (arith, count_cons g [], count_nil)

pub mark_at_most_one : (kind : ℕ) → cond {A = ℕ} (conditional_of kind) 1 0 ≤ 1
mark_at_most_one kind = bit_most (conditional_of kind)

-- no list has more conditional gates than gates
pub count_most : (gs : List Gate) → conditional_count gs ≤ length gs
count_most [] = omega (arith, count_nil)
count_most (g ∷ gs) = omega (arith, count_cons g gs, mark_at_most_one g.kind, count_most gs)

-- What the layers above use of levels.
-- Assumes nothing.
use mathlib.Core.Path.{◌≡◌, ◌∙◌, refl, sym, subst}
use mathlib.Core.Bool.{Bool, true, false, cond}
use mathlib.Core.List.{List, [], ◌∷◌, ◌++◌}
use Prim.Native.Nat.{ℕ, zero, suc, ◌+◌, ◌-◌, ◌≤◌, ◌<◌, max}
use native.Mathlib.Nat.{add-zero, add-suc}
use native.Mathlib.Omega.{arith}
use lib.Dec.{ltb}
use lib.ListN.{length, get_or, length-append, get_or-append}
use lib.Seq.{get_or-append_seam}
use borrow.Author.Tests.{ltb-false}
use Rattle.gates.specs.Kind.{conditional_of}
use Rattle.gates.specs.Gate.{Gate}
use Rattle.gates.specs.Board.{conditional_count}
use Rattle.gates.proofs.Reading.{Below, operands_below}
use Rattle.gates.proofs.Counting.{count_cons}
use Rattle.gates.proofs.Laws.{AllGood}
use Rattle.basics.specs.Lists.{maximum}
use Rattle.gate_levels.specs.Levels.{wire_level, gate_level, levels_from, levels_of, rounds_of}

-- The levels found so far stay, and each gate adds one.
pub levels_keep : (inputs : ℕ) (ls : List ℕ) (gs : List Gate) (i : ℕ) → i < length ls → get_or (levels_from inputs ls gs) i 0 ≡ get_or ls i 0
unfolding levels_from
levels_keep inputs ls [] i h = refl
levels_keep inputs ls (g ∷ gs) i h =
    levels_keep inputs (ls ++ (gate_level inputs ls g ∷ [])) gs i (omega (arith, length-append ls (gate_level inputs ls g ∷ [])))
    ∙ get_or-append ls (gate_level inputs ls g ∷ []) 0 i h

pub length_from : (inputs : ℕ) (ls : List ℕ) (gs : List Gate) → length (levels_from inputs ls gs) ≡ length ls + length gs
unfolding levels_from
length_from inputs ls [] = omega arith
length_from inputs ls (g ∷ gs) =
    omega (arith, length_from inputs (ls ++ (gate_level inputs ls g ∷ [])) gs, length-append ls (gate_level inputs ls g ∷ []))

pub length_levels : (inputs : ℕ) (gs : List Gate) → length (levels_of inputs gs) ≡ length gs
unfolding levels_of
length_levels inputs gs = omega (arith, length_from inputs [] gs)

-- A wire's level depends only on the levels of the gates up to it.
pub wire_level_same : (inputs n : ℕ) (ls ms : List ℕ) (x : ℕ) → x < inputs + n
    → ((i : ℕ) → i < n → get_or ls i 0 ≡ get_or ms i 0) → wire_level inputs ls x ≡ wire_level inputs ms x
unfolding wire_level
wire_level_same inputs n ls ms x h e = go (ltb x inputs) refl
  where
    go : (b : Bool) → ltb x inputs ≡ b → cond b 0 (get_or ls (x - inputs) 0) ≡ cond b 0 (get_or ms (x - inputs) 0)
    go true f = refl
    go false f = e (x - inputs) (omega (arith, ltb-false x inputs f))

pub gate_level_same : (inputs n : ℕ) (ls ms : List ℕ) (g : Gate) → Below (inputs + n) g
    → ((i : ℕ) → i < n → get_or ls i 0 ≡ get_or ms i 0) → gate_level inputs ls g ≡ gate_level inputs ms g
unfolding gate_level
gate_level_same inputs n ls ms g b e =
    rw (
      wire_level_same inputs n ls ms g.a b.a_below e,
      wire_level_same inputs n ls ms g.b b.b_below e,
      wire_level_same inputs n ls ms g.c b.c_below e,
    )

-- From gate n on, each gate's level follows from the levels of its operands.
abbrev pub Leveled : ℕ → List ℕ → ℕ → List Gate → Type 0
Leveled inputs ls n [] = Unit {0}
Leveled inputs ls n (g ∷ gs) = (get_or ls n 0 ≡ gate_level inputs ls g) × Leveled inputs ls (suc n) gs

pub from_leveled : (inputs : ℕ) (ls : List ℕ) (gs : List Gate) → 1 ≤ inputs → AllGood (inputs + length ls) gs
    → Leveled inputs (levels_from inputs ls gs) (length ls) gs
unfolding levels_from
from_leveled inputs ls [] pos good = tt
from_leveled inputs ls (g ∷ gs) pos good =
    let v = gate_level inputs ls g in
    let next = ls ++ (v ∷ []) in
    let final = levels_from inputs next gs in
    let long : length next ≡ suc (length ls) = omega (arith, length-append ls (v ∷ [])) in
    let own : inputs + suc (length ls) ≡ inputs + length next = omega arith in (
      levels_keep inputs next gs (length ls) (omega arith) ∙ get_or-append_seam ls v [] 0
          ∙ gate_level_same inputs (length ls) ls final g (operands_below (inputs + length ls) g (omega arith) good.0)
          (λ (i : ℕ) h. sym (levels_keep inputs next gs i (omega arith) ∙ get_or-append ls (v ∷ []) 0 i h)),
      subst (λ (m : ℕ). Leveled inputs final m gs) long
          (from_leveled inputs next gs pos (subst (λ (m : ℕ). AllGood m gs) (sym (add-suc inputs (length ls)) ∙ own)
          good.1)),
    )

pub levels_leveled : (inputs : ℕ) (gs : List Gate) → 1 ≤ inputs → AllGood inputs gs → Leveled inputs (levels_of inputs gs) 0 gs
unfolding levels_of
levels_leveled inputs gs pos good = from_leveled inputs [] gs pos (subst (λ (m : ℕ). AllGood m gs) (sym (add-zero inputs)) good)

-- An operand's level is at most the gate's, and below it if the gate is conditional.
pub record OperandLevels (inputs : ℕ) (ls : List ℕ) (g : Gate) : Type 0 where
  pub a_level : wire_level inputs ls g.a + cond (conditional_of g.kind) 1 0 ≤ gate_level inputs ls g
  pub b_level : wire_level inputs ls g.b + cond (conditional_of g.kind) 1 0 ≤ gate_level inputs ls g
  pub c_level : wire_level inputs ls g.c + cond (conditional_of g.kind) 1 0 ≤ gate_level inputs ls g

pub operand_levels : (inputs : ℕ) (ls : List ℕ) (g : Gate) → OperandLevels inputs ls g
unfolding gate_level
operand_levels inputs ls g = record { a_level = omega arith; b_level = omega arith; c_level = omega arith }

-- The largest level is at least each level. If levels are appended, it is the larger of the two maxima.
pub maximum_most : (ls : List ℕ) (i : ℕ) → get_or ls i 0 ≤ maximum ls
unfolding maximum
maximum_most [] i = omega arith
maximum_most (l ∷ ls) zero = omega arith
maximum_most (l ∷ ls) (suc i) = omega (arith, maximum_most ls i)

pub maximum_append : (ls ms : List ℕ) → maximum (ls ++ ms) ≡ max (maximum ls) (maximum ms)
unfolding maximum
maximum_append [] ms = omega arith
maximum_append (l ∷ ls) ms = omega (arith, maximum_append ls ms)

pub maximum_more : (ls : List ℕ) (l : ℕ) → maximum (ls ++ (l ∷ [])) ≡ max (maximum ls) l
unfolding maximum
maximum_more ls l = omega (arith, maximum_append ls (l ∷ []))

-- No wire's level is above the largest, so a gate raises the largest by at most its mark.
pub wire_most : (inputs : ℕ) (ls : List ℕ) (x : ℕ) → wire_level inputs ls x ≤ maximum ls
unfolding wire_level
wire_most inputs ls x = go (ltb x inputs)
  where
    go : (b : Bool) → cond b 0 (get_or ls (x - inputs) 0) ≤ maximum ls
    go true = omega arith
    go false = maximum_most ls (x - inputs)

pub gate_most : (inputs : ℕ) (ls : List ℕ) (g : Gate) → gate_level inputs ls g ≤ maximum ls + cond (conditional_of g.kind) 1 0
unfolding gate_level
gate_most inputs ls g = omega (arith, wire_most inputs ls g.a, wire_most inputs ls g.b, wire_most inputs ls g.c)

pub maximum_from : (inputs : ℕ) (ls : List ℕ) (gs : List Gate) → maximum (levels_from inputs ls gs) ≤ maximum ls + conditional_count gs
unfolding levels_from
maximum_from inputs ls [] = omega arith
maximum_from inputs ls (g ∷ gs) =
    let v = gate_level inputs ls g in
    omega (arith, maximum_from inputs (ls ++ (v ∷ [])) gs, maximum_more ls v, gate_most inputs ls g, count_cons g gs)

-- R is at most C.
pub rounds_most : (inputs : ℕ) (gs : List Gate) → rounds_of inputs gs ≤ conditional_count gs
unfolding rounds_of levels_of maximum
rounds_most inputs gs = omega (arith, maximum_from inputs [] gs)

-- What the test of a gate says, as facts with names.
-- Assumes nothing.
use mathlib.Core.Path.{subst}
use mathlib.Core.Bool.{Bool, true, false, ◌&&◌}
use Prim.Native.Nat.{ℕ, ◌<◌, ◌≤◌}
use native.Mathlib.Omega.{arith}
use lib.Dec.{T, ltb, ltb→lt, eqb→eq}
use borrow.Author.Tests.{lt-ltb}
use Rattle.gates.specs.Open.Kind.{kind_count, operands_of}
use Rattle.gates.specs.Open.Gate.{Gate}
use Rattle.gates.specs.Open.Test.{good_operand, good_gate}

pub and_left : (a b : Bool) → T (a && b) → T a
and_left true b t = tt
and_left false b t = t

pub and_right : (a b : Bool) → T (a && b) → T b
and_right true b t = t
and_right false b t = absurd t

-- any good operand is at most its gate's wire, and a used one is below it
operand_most : (used : Bool) (own x : ℕ) → T (good_operand used own x) → x ≤ own
unfolding good_operand
operand_most true own x t = let h = ltb→lt x own t in omega arith
operand_most false own x t = let h = eqb→eq x 0 t in omega arith

operand_below : (n i own x : ℕ) → T (good_operand (ltb i n) own x) → i < n → x < own
unfolding good_operand
operand_below n i own x t h = ltb→lt x own (subst (λ (u : Bool). T (good_operand u own x)) (lt-ltb i n h) t)

pub record GoodGate (own : ℕ) (g : Gate) : Type 0 where
  pub known : g.kind < kind_count
  pub a_most : g.a ≤ own
  pub b_most : g.b ≤ own
  pub c_most : g.c ≤ own
  pub a_below : 0 < operands_of g.kind → g.a < own
  pub b_below : 1 < operands_of g.kind → g.b < own
  pub c_below : 2 < operands_of g.kind → g.c < own

pub good_gate_lem : (own : ℕ) (g : Gate) → T (good_gate own g) → GoodGate own g
unfolding good_gate
good_gate_lem own g t =
    let n = operands_of g.kind in
    let k = ltb g.kind kind_count in
    let x = good_operand (ltb 0 n) own g.a in
    let y = good_operand (ltb 1 n) own g.b in
    let z = good_operand (ltb 2 n) own g.c in
    let tkxy = and_left (k && x && y) z t in
    let tkx = and_left (k && x) y tkxy in
    let tx = and_right k x tkx in
    let ty = and_right (k && x) y tkxy in
    let tz = and_right (k && x && y) z t in
    record {
      known = ltb→lt g.kind kind_count (and_left k x tkx);
      a_most = operand_most (ltb 0 n) own g.a tx;
      b_most = operand_most (ltb 1 n) own g.b ty;
      c_most = operand_most (ltb 2 n) own g.c tz;
      a_below = operand_below n 0 own g.a tx;
      b_below = operand_below n 1 own g.b ty;
      c_below = operand_below n 2 own g.c tz;
    }

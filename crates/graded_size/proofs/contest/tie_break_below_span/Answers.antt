-- `graded_size::contest::tie_break_below_span` meets its contract, case by case.
-- Assumes nothing.
use mathlib.Core.Path.{◌≡◌, ap}
use Prim.Native.Nat.{ℕ, ◌+◌, ◌-◌, ◌*◌, ◌≤◌}
use native.Mathlib.Nat.{mul-le-mul}
use native.Mathlib.Omega.{arith}
use Rattle.gate_words.proofs.ReachLaws.{reach_last_most}
use Rattle.graded_size.proofs.Spans.{tie_break_below_none, tie_break_below_single, tie_break_below_more}
use Rattle.graded_size.proofs.contest.tie_break_below_span.Goals as goal
use Rattle.graded_size.proofs.contest.tie_break_below_span.Goals.{Else-grades-eq2}

-- at most four grades between the first and the last, at most seven digits
few : (r d : ℕ) → r ≤ 7 → d ≤ 7 → (d - 3) * (6 * r + 1) ≤ 4 * 43
few r d h k =
    let a : d - 3 ≤ 4 = omega arith in
    let b : 6 * r + 1 ≤ 43 = omega arith in
    mul-le-mul a b

between : (c : Else-grades-eq2) → (c.args.grades - 3) * (6 * c.args.digits + 1) ≤ 172
between c =
    few c.args.digits c.args.grades c.requires.narrow
    c.requires.few

pub returns-then-digits-eq0 : goal.returns-then-digits-eq0
returns-then-digits-eq0 c =
    let a = c.args in omega (arith, tie_break_below_none a.digits (a.grades - 2) c.if-digits-eq0.true)

pub returns-then-grades-eq2 : goal.returns-then-grades-eq2
returns-then-grades-eq2 c =
    let a = c.args in
    omega (
      arith,
      tie_break_below_single a.digits (a.grades - 2) c.if-digits-eq0.false
          (omega (arith, c.if-grades-eq2.true)),
    )

pub returns : goal.returns
returns c =
    let a = c.args in
    let h = c.requires in
    let e : a.grades - 2 - 1 ≡ a.grades - 3 = omega arith in
    omega (
      arith,
      c.reach_span.ensures,
      tie_break_below_more a.digits (a.grades - 2) c.if-digits-eq0.false
          (omega (arith, h, c.if-grades-eq2.false)),
      ap (λ (x : ℕ). x * (6 * a.digits + 1)) e,
    )

pub overflow_mul-result-5 : goal.overflow_mul-result-5
overflow_mul-result-5 c = omega (
  arith,
  between (goal.at.overflow_mul-result-5 c).Else-grades-eq2,
  c.reach_span.ensures,
  reach_last_most (c.args.digits - 1),
  c.requires,
)

pub overflow_add-result-3 : goal.overflow_add-result-3
overflow_add-result-3 c = omega (
  arith,
  between (goal.at.overflow_add-result-3 c).Else-grades-eq2,
  c.reach_span.ensures,
  reach_last_most (c.args.digits - 1),
  c.requires,
)

pub overflow_add-result-4 : goal.overflow_add-result-4
overflow_add-result-4 c = omega (
  arith,
  between (goal.at.overflow_add-result-4 c).Else-grades-eq2,
  c.reach_span.ensures,
  reach_last_most (c.args.digits - 1),
  c.requires,
)

-- `gate_adders::counter::count_size` meets its contract: the gates counted so far and those of the levels left add
-- up to all.
-- Assumes nothing.
use mathlib.Core.Path.{◌≡◌, ◌∙◌, sym, ap, subst}
use Prim.Native.Nat.{ℕ, ◌+◌, ◌-◌, ◌*◌, ◌/◌, ◌%◌, ◌≤◌, ◌<◌}
use native.Mathlib.Omega.{arith}
use Rattle.gate_words.specs.Counter.{adders, count_size, Countable}
use Rattle.gate_words.proofs.CounterSteps.{count_size_step, count_size_none, countable_step}
use Rattle.gate_adders.proofs.counter.count_size.Goals as goal

-- a level has one carry for every two of its bits, the public bit included
carries : (m e : ℕ) → 0 < m → (m + e) / 2 ≡ adders (m - 1) e
unfolding adders
carries m e h = let q : m + e ≡ m - 1 + e + 1 = omega arith in ap (λ (x : ℕ). x / 2) q

-- the next level of a counter, and the levels left
size_turn : (m x i r : ℕ) → i < r → Countable m x (r - i)
    → Countable ((m + x % 2) / 2) (x / 2) (r - (i + 1))
    × (count_size m x (r - i) ≡ 3 * ((m + x % 2) / 2) + count_size ((m + x % 2) / 2) (x / 2) (r - (i + 1)))
    × ((m + x % 2) / 2 ≤ m)
size_turn m x i r h c =
    let q = countable_step m x i r h c in
    let e = carries m (x % 2) q.0 in
    let a : (m + x % 2) / 2 ≤ m = omega (arith, q.0) in (
      subst (λ (k : ℕ). Countable k (x / 2) (r - (i + 1))) (sym e) q.1,
      count_size_step m x i r h
          ∙ ap (λ (k : ℕ). 3 * k + count_size k (x / 2) (r - (i + 1))) (sym e),
      a,
    )

pub overflow_add-gates : goal.overflow_add-gates
overflow_add-gates c =
    let l = c.loop in
    let s = size_turn l.carries l.rest l.counter c.args.levels c.loop-test.true l.invariant.1 in
    omega (arith, s.1, l.invariant.2, c.requires.small)

pub loop-preserved : goal.loop-preserved
loop-preserved c =
    let l = c.loop in
    let s = size_turn l.carries l.rest l.counter c.args.levels c.loop-test.true l.invariant.1 in
    (omega (arith, s.2, l.invariant.0), s.0, omega (arith, s.1, l.invariant.2))

pub returns : goal.returns
returns c =
    let l = c.loop in
    omega (arith, l.invariant.2, count_size_none l.carries l.rest l.counter c.args.levels c.loop-test.false)

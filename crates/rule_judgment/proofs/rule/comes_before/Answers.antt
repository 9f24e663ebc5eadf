-- `rule_judgment::rule::comes_before` meets its contract: the loop keeps the last difference below half, and
-- returns at the first difference from half on.
-- Assumes nothing.
use mathlib.Core.Path.{◌≡◌, ◌∙◌, refl, sym, ap, subst}
use mathlib.Core.Bool.{true, false}
use mathlib.Core.Logic.{◌≢◌}
use mathlib.Core.List.{List, []}
use Prim.Native.Nat.{ℕ, suc, ◌+◌, ◌≤◌, ◌<◌}
use native.Mathlib.Numerals.{add-one}
use native.Mathlib.Omega.{arith}
use lib.ListN.{take, get_or, length-take}
use Rattle.rule_judgment.proofs.RunningSums.{running_most}
use Rattle.rule_judgment.specs.declared.rule.Sums.{Sums}
use Rattle.rule_judgment.specs.inner.Ready.{SumsReady}
use Rattle.rule_judgment.proofs.Statements.{Alike}
use Rattle.rule_judgment.proofs.Deciding.{At}
use Rattle.rule_judgment.proofs.Walking.{Walk, walk_start, walk_most, walk_equal, walk_differs, walk_decides, walk_ends, sums_next, sum_room}
use Rattle.rule_judgment.specs.Judgment.{sequence_of, precedes}
use Rattle.rule_judgment.specs.inner.Decision.{half_reached, decided_by}
use Rattle.rule_judgment.proofs.rule.comes_before.Goals.{then-sums+else-half_reached, else-sums}
use Rattle.rule_judgment.proofs.rule.comes_before.Goals as goal

module _ (counts : List (List ℕ)) (i j d n : ℕ) (p : SumsReady counts i j d n) where
  -- the rows of both candidates
  abbrev first : List ℕ
  first = get_or counts i []

  abbrev second : List ℕ
  second = get_or counts j []

  alike : Alike n (take d first) (take d second)
  alike = record { sum_a = p.first_sum; sum_b = p.second_sum }

  -- the sums after turn g
  module _ (lower sums : Sums) (g xa xb : ℕ) (h : g < d) (w : Walk n (take d first) (take d second) lower sums g)
      (ea : xa ≡ get_or first g 0) (eb : xb ≡ get_or second g 0) where
    next : Sums
    next = record { a = sums.a + xa; b = sums.b + xb }

    next_at : At (take d first) (take d second) (suc g) next
    unfolding next
    next_at = sums_next first second d g sums next h w.sums_at (ap (λ (v : ℕ). sums.a + v) ea) (ap (λ (v : ℕ). sums.b + v) eb)

    next_most : (sums.a + xa ≤ 255) × (sums.b + xb ≤ 255)
    unfolding next
    next_most =
        let e = next_at in (
          omega (arith, e.first, running_most (take d first) (suc g), p),
          omega (arith, e.second, running_most (take d second) (suc g), p),
        )

    lower_most : (lower.a ≤ 255) × (lower.b ≤ 255)
    lower_most = let m = walk_most n (take d first) (take d second) alike lower sums g w in (omega (arith, m, p), omega (arith, m, p))

    -- the walk goes on with the last difference kept or replaced
    keeps : next.a ≡ next.b → Walk n (take d first) (take d second) lower next (g + 1)
    unfolding next
    keeps e = subst (λ (j : ℕ). Walk n (take d first) (take d second) lower next j) (sym (add-one g))
        (walk_equal n (take d first) (take d second) alike lower sums next g w next_at e)

    replaces : next.a ≢ next.b → half_reached n next ≡ false → Walk n (take d first) (take d second) next next (g + 1)
    unfolding next
    replaces ne e = subst (λ (j : ℕ). Walk n (take d first) (take d second) next next j) (sym (add-one g))
        (walk_differs n (take d first) (take d second) alike lower sums next g w next_at ne e)

    ends : next.a ≢ next.b → half_reached n next ≡ true → decided_by n lower next
        ≡ precedes (sequence_of (take d first)) (sequence_of (take d second))
    unfolding next
    ends ne e = walk_decides n (take d first) (take d second) alike lower sums next g w next_at ne e

pub loop-g-init : goal.loop-g-init
loop-g-init c = walk_start _ _ _ (alike _ _ _ _ _ c.requires) c.requires.some_ballot
    (record { a = 0; b = 0 }) (record { a = 0; b = 0 }) refl refl refl refl

pub overflow_add-sums : goal.overflow_add-sums
overflow_add-sums c = let x = c.args in
    omega (
      arith,
      sum_room (get_or x.counts.now x.a []) x.shape.grades c.loop-g.g c.loop-g.sums.a (omega arith) c.loop-g.invariant.sums_at.first,
      c.requires.first_sum,
      c.from.ensures,
    )

pub overflow_add-sums-in-loop-g : goal.overflow_add-sums-in-loop-g
overflow_add-sums-in-loop-g c = let x = c.args in
    omega (
      arith,
      sum_room (get_or x.counts.now x.b []) x.shape.grades c.loop-g.g c.loop-g.sums.b (omega arith) c.loop-g.invariant.sums_at.second,
      c.requires.second_sum,
      c.from-in-loop-g.ensures,
    )

pub half_reached-requires : goal.half_reached-requires
half_reached-requires c = let l = c.loop-g in
    next_most _ _ _ _ _ c.requires l.lower l.sums l.g _ _ (omega arith) l.invariant c.from.ensures c.from-in-loop-g.ensures

pub decided-requires : goal.decided-requires
decided-requires c = let l = c.loop-g in
    let m = next_most _ _ _ _ _ c.requires l.lower l.sums l.g _ _ (omega arith) l.invariant c.from.ensures c.from-in-loop-g.ensures in
    let k = lower_most _ _ _ _ _ c.requires l.lower l.sums l.g _ _ (omega arith) l.invariant c.from.ensures c.from-in-loop-g.ensures in
    (k.0, k.1, m.0, m.1)

pub returns-then-half_reached : goal.returns-then-half_reached
unfolding next
returns-then-half_reached c = let l = c.loop-g in
    c.decided.ensures
    ∙ ends _ _ _ _ _ c.requires l.lower l.sums l.g _ _ (omega arith) l.invariant c.from.ensures c.from-in-loop-g.ensures
    c.if-sums.true (sym c.half_reached.ensures ∙ c.if-half_reached.true)

pub loop-g-preserved : goal.loop-g-preserved
unfolding next
loop-g-preserved c = let x = c.args in
    let l = c.loop-g in
    let sums : Sums = record { a = l.sums.a + c.from.result; b = l.sums.b + c.from-in-loop-g.result } in
    let walks = λ (lower : Sums). Walk x.shape.ballots (take x.shape.grades (get_or x.counts.now x.a []))
    (take x.shape.grades (get_or x.counts.now x.b [])) lower sums (l.g + 1) in
    elim c.if-sums.branch [
      | then-sums+else-half_reached w ↦ subst walks (sym w.lower-is)
          (replaces _ _ _ _ _ c.requires l.lower l.sums l.g _ _ (omega arith) l.invariant c.from.ensures c.from-in-loop-g.ensures
          w.if-sums.true (sym w.half_reached.ensures ∙ w.if-half_reached.false))
      | else-sums w ↦ subst walks (sym w.lower-is)
          (keeps _ _ _ _ _ c.requires l.lower l.sums l.g _ _ (omega arith) l.invariant c.from.ensures c.from-in-loop-g.ensures
          w.if-sums.false)
    ]

pub returns : goal.returns
returns c = let x = c.args in
    let l = c.loop-g in
    walk_ends _ _ _ (alike _ _ _ _ _ c.requires) l.lower l.sums l.g l.invariant
    (omega (arith, length-take x.shape.grades (get_or x.counts.now x.a [])))
    (omega (arith, length-take x.shape.grades (get_or x.counts.now x.b [])))

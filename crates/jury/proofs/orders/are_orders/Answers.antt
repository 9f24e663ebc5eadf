-- `jury::orders::are_orders` meets its contract: if no byte is astray in the ballots so far, they are strict weak
-- orders.
-- Assumes nothing.
use mathlib.Core.Path.{◌≡◌, ◌∙◌, ap}
use mathlib.Core.List.{List, [], ◌∷◌, ◌++◌}
use Prim.Native.Nat.{ℕ, ◌+◌, ◌*◌, ◌<◌}
use native.Mathlib.Nat.{suc-mul, mul_assoc, mul-pos}
use native.Mathlib.Numerals.{add-one}
use native.Mathlib.Omega.{arith}
use lib.ListN.{length, length-append}
use borrow.Author.Count.{below_more}
use borrow.Author.Tests.{eqb-true}
use Rattle.jury.specs.declared.shape.Shape.{Shape}
use Rattle.jury.specs.inner.Orders.{RankedSize}
use Rattle.jury.proofs.Chunks.{chunk_is, chunks_after, chunks_end}
use Rattle.jury.proofs.Scores.{order_from}
use Rattle.jury.proofs.orders.are_orders.Goals as goal

-- the ballots are whole chunks
whole : (s : Shape) (xs : List ℕ) → RankedSize s xs → length xs ≡ s.ballots * (s.candidates * s.candidates)
whole s xs r = omega (arith, r.size, mul_assoc s.ballots s.candidates s.candidates)

pub loop-ballot-preserved : goal.loop-ballot-preserved
loop-ballot-preserved c =
    let s = c.args.shape in
    let k = s.candidates in
    let xs = c.args.ballots.now in
    let b = length c.loop-ballot.yielded in
    let ballot = c.in-Some.ballot.now in
    let after = c.next.new.self.rest.now in
    let steps = c.in-Some.ensures.steps in
    let full = steps.1.1 ∙ c.loop-ballot.invariant.0 in
    let some : 0 < k * k = mul-pos c.requires.some c.requires.some in
    let turn : length (c.loop-ballot.yielded ++ c.in-Some.ballot ∷ []) ≡ b + 1 = length-append c.loop-ballot.yielded (c.in-Some.ballot ∷ []) in
    let next : (b + 1) * (k * k) ≡ b * (k * k) + k * k = omega (arith, ap (λ (n : ℕ). n * (k * k)) (add-one b), suc-mul b (k * k)) in (
      steps.0 ∙ c.loop-ballot.invariant.0,
      rw turn (chunks_after ballot after (whole s xs c.requires) some c.loop-ballot.invariant.1 steps.1.0 full),
      rw turn (omega (arith, c.astray_in_ballot-astray.ensures.most)),
      λ z. rw turn (below_more _ _ (c.loop-ballot.invariant.3 (omega arith))
          (order_from k b xs ballot (chunk_is ballot after (whole s xs c.requires) some c.loop-ballot.invariant.1 steps.1.0 full)
          (c.astray_in_ballot-astray.ensures.ordered (omega arith)))),
    )

pub returns : goal.returns
returns c =
    let last = chunks_end (whole c.args.shape c.args.ballots.now c.requires) c.loop-ballot.invariant.1
    (omega (arith, c.in-None.ensures.steps.1.0, c.loop-ballot.invariant.0)) in
    λ t b l. c.loop-ballot.invariant.3 (eqb-true c.loop-ballot.astray 0 t) b (omega arith)

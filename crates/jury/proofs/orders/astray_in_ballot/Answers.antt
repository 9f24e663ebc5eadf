-- `jury::orders::astray_in_ballot` meets its contract: if no byte is astray in the rows before i, they say what the
-- scores say.
-- Assumes nothing.
use mathlib.Core.Path.{◌≡◌, ◌∙◌, sym, ap}
use Prim.Native.Nat.{ℕ, ◌+◌, ◌*◌}
use native.Mathlib.Nat.{suc-mul}
use native.Mathlib.Numerals.{add-one}
use native.Mathlib.Omega.{arith}
use lib.Dec.{eqb, ltb}
use lib.ListN.{get_or}
use borrow.Author.Count.{below_more}
use Rattle.jury.proofs.Chunks.{chunk_byte, chunks_after, chunks_end}
use Rattle.jury.proofs.Scores.{order_by_scores}
use Rattle.jury.proofs.orders.astray_in_ballot.Goals as goal

pub loop-i-preserved : goal.loop-i-preserved
loop-i-preserved c =
    let k = c.args.k in
    let xs = c.args.ballot.now in
    let i = c.loop-i.i-iterator.count in
    let row = c.in-Some.row.now in
    let after = c.next.new.self.iter.rest.now in
    let scores = c.put_scores.new.scores in
    let steps = c.in-Some.ensures.steps in
    let full = steps.0.1.1 ∙ c.loop-i.invariant.0 in
    let next : (i + 1) * k ≡ i * k + k = omega (arith, ap (λ (n : ℕ). n * k) (add-one i), suc-mul i k) in (
      steps.0.0 ∙ c.loop-i.invariant.0,
      rw steps.2 (chunks_after row after c.requires.size c.requires.some c.loop-i.invariant.1 steps.0.1.0 full),
      rw steps.2 (omega (arith, c.astray_in_row-astray.ensures.most)),
      λ z. rw steps.2 (below_more _ _ (c.loop-i.invariant.3 (omega arith))
          (λ j l.
          ap (λ (n : ℕ). eqb n 1) (sym (chunk_byte row after c.requires.size c.requires.some c.loop-i.invariant.1 steps.0.1.0 full j l))
          ∙ c.astray_in_row-astray.ensures.agrees (omega arith) j (omega arith)
          ∙ ap (λ (h : ℕ). ltb (get_or scores j 0) (get_or scores h 0)) steps.1)),
    )

pub returns : goal.returns
returns c =
    let k = c.args.k in
    let e = chunks_end c.requires.size c.loop-i.invariant.1 (omega (arith, c.in-None.ensures.steps.0.1.0, c.loop-i.invariant.0)) in
    record {
      most = omega (arith, ap (λ (n : ℕ). n * k) e);
      ordered = λ z. order_by_scores k (λ i j. eqb (get_or c.args.ballot.now (i * k + j) 0) 1) (λ i. get_or c.put_scores.new.scores i 0)
          (λ h l j m. c.loop-i.invariant.3 z h (omega arith) j m);
    }

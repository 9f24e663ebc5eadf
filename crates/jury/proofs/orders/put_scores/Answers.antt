-- `jury::orders::put_scores` is safe: turn i takes row i.
-- Assumes nothing.
use mathlib.Core.Path.{◌∙◌}
use Rattle.jury.proofs.Chunks.{chunks_after}
use Rattle.jury.proofs.orders.put_scores.Goals as goal

pub loop-i-preserved : goal.loop-i-preserved
loop-i-preserved c =
    let steps = c.in-Some.ensures.steps in (
      steps.0.0 ∙ c.loop-i.invariant.0,
      rw steps.2 (chunks_after c.in-Some.row.now c.next.new.self.iter.rest.now c.requires.size c.requires.some c.loop-i.invariant.1 steps.0.1.0
          (steps.0.1.1 ∙ c.loop-i.invariant.0)),
    )

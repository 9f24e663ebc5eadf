-- `rule_schulze::votes::count_of` meets its contract: after b turns the count is that of the first b ballots.
-- Assumes nothing.
use mathlib.Core.Path.{refl}
use native.Mathlib.Omega.{arith}
use Rattle.rule_schulze.proofs.Tables.{votes_one, votes_none}
use Rattle.rule_schulze.specs.Votes.{votes}
use Rattle.rule_schulze.proofs.votes.count_of.Goals.{then-ballots-at-eq1, else-ballots-at-eq1}
use Rattle.rule_schulze.proofs.votes.count_of.Goals as goal

pub loop-init : goal.loop-init
unfolding votes
loop-init c = (omega arith, refl, omega arith)

pub loop-preserved : goal.loop-preserved
loop-preserved c = let a = c.args in
    let b = c.loop.counter in
    let at_b = c.loop.invariant.0 in (
      omega arith,
      elim c.if-ballots-at-eq1.branch [
        | then-ballots-at-eq1 w ↦ omega (arith, w.count-is, votes_one a.k b a.ballots.now a.i a.j c.loop.at at_b w.if-ballots-at-eq1.true)
        | else-ballots-at-eq1 w ↦ omega (arith, w.count-is, votes_none a.k b a.ballots.now a.i a.j c.loop.at at_b w.if-ballots-at-eq1.false)
      ],
      elim c.if-ballots-at-eq1.branch [ then-ballots-at-eq1 w ↦ omega (arith, w.count-is) | else-ballots-at-eq1 w ↦ omega (arith, w.count-is) ],
    )

-- `urn_chains::walk::holds_ballot` meets its contract: the juror's number is not 0, and the ballot passes its tests.
-- Assumes nothing.
use mathlib.Core.Path.{◌∙◌, sym, ap}
use mathlib.Core.Bool.{Bool, ◌&&◌}
use Rattle.jury.proofs.Limits.{graded_T}
use Rattle.urn_chains.specs.Sound.{jury_of_one, no_reason, good_ballot}
use Rattle.urn_chains.proofs.GoodBallots.{no_juror, some_juror, good_graded, passed_is_ok}
use native.Mathlib.Omega.{arith}
use Rattle.urn_chains.proofs.walk.holds_ballot.Goals as goal

pub returns-then-juror-eq0 : goal.returns-then-juror-eq0
returns-then-juror-eq0 c = let a = c.args in
    sym (ap (λ (t : Bool). t && good_ballot a.k a.d a.ballot.now) (no_juror a.juror c.if-juror-eq0.true))

pub test-tested-requires : goal.test-tested-requires
unfolding jury_of_one
test-tested-requires c = graded_T (jury_of_one c.args.k c.args.d) c.requires

pub returns : goal.returns
unfolding jury_of_one
returns c =
    let a = c.args in
    c.is_ok.ensures.value ∙ sym (ap (λ (t : Bool). t && good_ballot a.k a.d a.ballot.now)
    (some_juror a.juror c.if-juror-eq0.false (omega arith))
    ∙ good_graded a.k a.d a.ballot.now c.requires
    ∙ ap no_reason (sym c.test-tested.ensures) ∙ passed_is_ok c.test-tested.result)

-- `urn::admit::is_graded` meets its contract: the test is the definition's.
-- Assumes nothing.
use Rattle.urn_chains.specs.Sound.{jury_of_one}
use Rattle.urn.proofs.admit.is_graded.Goals as goal

pub returns : goal.returns
unfolding jury_of_one
returns c = c.is_within_graded_limits.ensures

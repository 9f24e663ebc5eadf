-- `trustee_rounds::part::own_part` meets its contract: it reads the trustee's parts of the three operands.
-- Assumes nothing.
use Rattle.trustee_shares.specs.Shares.{part}
use Rattle.trustee_rounds.proofs.part.own_part.Goals as goal

pub returns : goal.returns
unfolding part
returns c = c.part_of_kind.ensures

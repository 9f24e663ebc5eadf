-- `trustee_gates::gate::masked_second` meets its contract: it adds the trustee's bit of the second factor and its
-- bit of v.
-- Assumes nothing.
use mathlib.Core.Path.{sym}
use Rattle.trustee_shares.specs.Shares.{v_of, part, masked_second}
use Rattle.trustee_gates.proofs.gate.masked_second.Goals as goal

pub returns : goal.returns
unfolding masked_second v_of part
returns c = rw (sym c.second_factor-factor.ensures, sym c.entry.ensures) c.plus.ensures

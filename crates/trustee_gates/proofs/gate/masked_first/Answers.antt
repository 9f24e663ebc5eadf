-- `trustee_gates::gate::masked_first` meets its contract: it adds the trustee's part of wire a and its bit of u.
-- Assumes nothing.
use mathlib.Core.Path.{sym}
use Rattle.trustee_shares.specs.Shares.{u_of, part, first_factor, masked_first}
use Rattle.trustee_gates.proofs.gate.masked_first.Goals as goal

pub returns : goal.returns
unfolding masked_first first_factor u_of part
returns c = rw (sym c.entry-a.ensures, sym c.entry.ensures) c.plus.ensures

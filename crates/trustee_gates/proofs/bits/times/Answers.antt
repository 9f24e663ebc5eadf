-- `trustee_gates::bits::times` meets its contract: factors may be taken modulo 2.
-- Assumes nothing.
use Rattle.trustee_gates.proofs.Parity.{times_mods}
use Rattle.trustee_gates.proofs.bits.times.Goals as goal

pub returns : goal.returns
returns c = times_mods c.args.a c.args.b

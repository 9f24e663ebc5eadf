-- `season::run::winners` meets its contract: each half takes the lowest digit off.
use Rattle.std.proofs.Common.{arith}
use Rattle.season.proofs.MaskLaws.{ones_step, ones_end}
use Rattle.season.proofs.run.winners.Goals as goal

pub loop-i-preserved : goal.loop-i-preserved
loop-i-preserved c =
    (omega arith, omega (arith, c.loop-i.invariant.1, ones_step c.loop-i.rest c.loop-i._i 8 (omega arith)))

pub returns : goal.returns
returns c = omega (arith, c.loop-i.invariant.1, ones_end c.loop-i.rest c.loop-i._i 8 (omega arith))

-- `season::run::number` meets its contract: four bytes make a 32-bit number.
use Rattle.std.proofs.Common.{arith}
use Rattle.season.specs.Season.{number_at}
use Rattle.season.proofs.run.number.Goals as goal

pub returns : goal.returns
unfolding number_at
returns c = record { is = omega (arith, c.from_le_bytes.ensures); small = omega arith }

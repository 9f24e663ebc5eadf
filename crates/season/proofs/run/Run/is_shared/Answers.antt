-- `season::run::Run::is_shared` meets its contract: the number of ones in the mask is compared with 1.
use Rattle.std.proofs.Common.{ap, ltb}
use Rattle.season.specs.Season.{winners_of}
use Rattle.season.proofs.run.Run.is_shared.Goals as goal

pub returns : goal.returns
unfolding winners_of
returns c = ap (ltb 1) c.winners.ensures

-- `season::run::Run::is_good` meets its contract: the shape is tested, and then the mask.
use Rattle.std.proofs.Common.{◌∙◌, sym}
use Rattle.basics.proofs.Flags.{and_taken, and_left}
use Rattle.season.specs.Season.{good_run}
use Rattle.season.proofs.run.Run.is_good.Goals as goal

pub returns-then-is_within_limits : goal.returns-then-is_within_limits
unfolding good_run
returns-then-is_within_limits c =
    and_taken _ _ _ (sym c.is_within_limits.ensures ∙ c.if-is_within_limits.true) c.mask_fits.ensures

pub returns-else-is_within_limits : goal.returns-else-is_within_limits
unfolding good_run
returns-else-is_within_limits c =
    and_left _ _ _ (sym c.is_within_limits.ensures ∙ c.if-is_within_limits.false) c.is_within_limits.ensures

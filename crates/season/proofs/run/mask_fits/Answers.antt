-- `season::run::mask_fits` meets its contract: each half takes a candidate off.
use Rattle.std.proofs.Common.{◌∙◌}
use Rattle.season.proofs.MaskLaws.{fits_step}
use Rattle.season.proofs.run.mask_fits.Goals as goal

pub loop-i-preserved : goal.loop-i-preserved
loop-i-preserved c = fits_step c.loop-i.rest c.loop-i._i c.args.k c.loop-i-test.true ∙ c.loop-i.invariant

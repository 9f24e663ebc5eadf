-- `season::run::mask_fits`: the mask fits exactly if its rest fits the rest of the candidates.
use Rattle.std.proofs.Common.{◌≡◌, ◌-◌, ◌^◌, ltb}
use Rattle.season.proofs.run.mask_fits.Given as goal

abbrev pub invariant-loop-i : goal.invariant-loop-i
invariant-loop-i l = ltb l.rest (2 ^ (l.k - l._i)) ≡ ltb l.mask (2 ^ l.k)

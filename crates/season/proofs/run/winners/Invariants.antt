-- `season::run::winners`: the ones counted so far plus those of the rest are all ones.
use Rattle.std.proofs.Common.{◌≡◌, ◌+◌, ◌-◌, ◌≤◌}
use Rattle.season.specs.Season.{ones_in}
use Rattle.season.proofs.run.winners.Given as goal

abbrev pub invariant-loop-i : goal.invariant-loop-i
invariant-loop-i l = (l.count ≤ l._i) × (l.count + ones_in (8 - l._i) l.rest ≡ ones_in 8 l.mask)

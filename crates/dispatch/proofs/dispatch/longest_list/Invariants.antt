-- `dispatch::dispatch::longest_list`: the larger of the maximum so far and that of the rest is that of all juries.
use Rattle.std.proofs.Common.{◌≡◌, max, drop}
use Rattle.dispatch.specs.inner.Rounds.{longest_list}
use Rattle.dispatch.proofs.dispatch.longest_list.Given as goal

abbrev pub invariant-loop-header : goal.invariant-loop-header
invariant-loop-header l = max l.most (longest_list (drop l.header-index l.headers)) ≡ longest_list l.headers

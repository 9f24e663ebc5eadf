-- `rule_schulze::votes::count_of` meets its contract: after b turns the count is that of the first b ballots.
-- Assumes nothing.
use mathlib.Core.Path.{◌≡◌}
use Prim.Native.Nat.{◌+◌, ◌*◌, ◌≤◌}
use Rattle.rule_schulze.specs.Votes.{votes}
use Rattle.rule_schulze.proofs.votes.count_of.Given as goal

abbrev pub invariant-loop : goal.invariant-loop
invariant-loop l = (l.at ≡ (l.counter * l.k + l.i) * l.k + l.j)
    × (l.count ≡ votes l.k l.counter l.ballots l.i l.j) × (l.count ≤ l.counter)

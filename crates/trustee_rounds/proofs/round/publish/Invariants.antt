-- `trustee_rounds::round::publish` meets its contract: the pass over the rest gives what the pass over all gates
-- gives.
-- Assumes nothing.
use mathlib.Core.List.{List}
use Prim.Native.Nat.{ℕ}
use Rattle.trustee_rounds.proofs.Passing.{PublishLeft}
use Rattle.trustee_rounds.proofs.round.publish.Given as goal

abbrev pub invariant-loop-g : goal.invariant-loop-g
invariant-loop-g l = (q : ℕ) (hs : List ℕ) → PublishLeft (record {
  trustee = q;
  round = l.round;
  inputs = l.inputs;
  levels = l.levels;
  triples = l.triples;
  heard = hs;
}) l.table l.wires l.initial.published l.published l.g l.i

-- `trustee_rounds::round::enter` meets its contract: the pass over the rest gives what the pass over all gates
-- gives.
-- Assumes nothing.
use Rattle.trustee_rounds.proofs.Passing.{EnterLeft}
use Rattle.trustee_rounds.proofs.round.enter.Given as goal

abbrev pub invariant-loop-g : goal.invariant-loop-g
invariant-loop-g l =
    EnterLeft (record {
      trustee = l.p;
      round = l.round;
      inputs = l.inputs;
      levels = l.levels;
      triples = l.triples;
      heard = l.heard;
    }) l.table l.initial.wires l.wires l.g l.i

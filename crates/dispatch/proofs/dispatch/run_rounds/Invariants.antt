-- `dispatch::dispatch::run_rounds`: each round gives every jury its next gates, and none is idle.
use Rattle.std.proofs.Common.{ℕ, ◌*◌, ◌-◌, ◌≤◌, ◌<◌}
use Rattle.dispatch_rounds.specs.Tables.{tables_of}
use Rattle.dispatch_rounds.specs.Rounds.{RoundState}
use Rattle.dispatch.proofs.dispatch.run_rounds.Given as goal

abbrev pub invariant-loop-done : goal.invariant-loop-done
invariant-loop-done l = record {
  state : RoundState (l.done * l.gates_per_round) l.headers
      (tables_of l.lists l.ballots l.tapes l.initial.wires l.initial.boards) l.conditional l.wires l.boards l.shown;
  done_most : l.done ≤ l.most;
  none_idle : (r : ℕ) → r < l.done → r * l.gates_per_round < l.most;
}

abbrev pub decreases-loop-done : goal.decreases-loop-done
decreases-loop-done l = l.most - l.done

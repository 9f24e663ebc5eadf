-- `dispatch_rounds::round::round`: the juries before j have had their turn, and the others are as they were before
-- the round.
use Rattle.std.proofs.Common.{List, ℕ, ◌+◌, drop}
use Rattle.dispatch_rounds.specs.Tables.{tables_of}
use Rattle.dispatch_rounds.specs.Rounds.{RoundState}
use Rattle.dispatch_rounds.proofs.MidRound.{Mid}
use Rattle.dispatch_rounds.proofs.round.round.Given as goal

abbrev pub invariant-loop-j : goal.invariant-loop-j
invariant-loop-j l =
    (ws bs : List ℕ) → RoundState l.given l.headers (tables_of l.lists l.ballots l.tapes ws bs) l.conditional l.initial.wires
    l.initial.boards l.initial.shown
    → Mid l.headers (tables_of l.lists l.ballots l.tapes ws bs) l.given (l.given + l.gates_per_round) l.conditional l.j
    (drop l.j l.headers) l.at l.wires l.boards l.shown

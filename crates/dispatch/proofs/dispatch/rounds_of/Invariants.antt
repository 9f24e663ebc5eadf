-- `dispatch::dispatch::rounds_of`: the juries before j have their numbers, and the others have 0.
use Rattle.std.proofs.Common.{ℕ, drop}
use Rattle.dispatch_rounds.specs.declared.header.JuryHeader.{JuryHeader}
use Rattle.dispatch_rounds.specs.Tables.{Tables}
use Rattle.dispatch_rounds.specs.Rounds.{eight_of, rounds_for}
use Rattle.dispatch_rounds.proofs.Pieces.{Upto, one_of}
use Rattle.dispatch_rounds.proofs.MidRound.{padding}
use Rattle.dispatch.proofs.dispatch.rounds_of.Given as goal

abbrev pub unknown : JuryHeader → Tables → ℕ
unknown s p = 0

abbrev pub rate : ℕ → JuryHeader → Tables → ℕ
rate gates_per_round s p = rounds_for s.gates gates_per_round

abbrev pub invariant-loop-j : goal.invariant-loop-j
invariant-loop-j l =
    (t : Tables) → (u : Tables)
    × Upto (one_of unknown) (one_of (rate l.gates_per_round)) (padding l.headers) (drop l.j l.headers) u
    l.j l.rounds (eight_of (rate l.gates_per_round) l.headers t)

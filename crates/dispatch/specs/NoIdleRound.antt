-- The dispatcher has no idle round: in each of its rounds some jury gets a gate.
use Rattle.std.specs.Prelude.{List, ℕ, suc, ◌*◌, ◌≤◌, ◌<◌, min, length, get_or}
use Rattle.dispatch_rounds.specs.declared.header.JuryHeader.{JuryHeader}

-- Jury j's header.
abbrev pub jury_at : ℕ → List JuryHeader → JuryHeader
jury_at j ss = get_or ss j (record { candidates = 0; grades = 0; ballots = 0; gates = 0 })

-- Jury j has done more gates after round r than before it.
abbrev pub GetsGate : (gates_per_round r : ℕ) → List JuryHeader → ℕ → Type 0
GetsGate gates_per_round r ss j =
    min (r * gates_per_round) (jury_at j ss).gates < min (suc r * gates_per_round) (jury_at j ss).gates

-- In each of the first `done` rounds, which are counted from 0, some jury gets at least one gate.
abbrev pub NoIdleRound : (gates_per_round done : ℕ) → List JuryHeader → Type 0
NoIdleRound gates_per_round done ss = (r : ℕ) → r < done → (j : ℕ) × (j < length ss) × GetsGate gates_per_round r ss j

-- After `done` rounds every jury has done all its gates.
abbrev pub AllDone : (gates_per_round done : ℕ) → List JuryHeader → Type 0
AllDone gates_per_round done ss = (j : ℕ) → j < length ss → (jury_at j ss).gates ≤ done * gates_per_round

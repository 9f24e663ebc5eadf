-- The reasons to refuse a call of the dispatcher, in the order of their tests (request 2.8).
use Rattle.std.specs.Prelude.{◌&&◌, List, ◌∷◌, ℕ, leb, replicate, Result, Ok, Err}
use Rattle.std.proofs.Math.Option.{Option, none, some}
use Rattle.jury.specs.Reason.{Reason, reason_at, reason_of, unless}
use Rattle.tally.specs.Run.{run_reason_numbers}
use Rattle.dispatch_rounds.specs.Reasons.{jury_reasons}
use Rattle.dispatch_rounds.specs.Rounds.{most_juries, most_gates_per_round}
use Rattle.dispatch.specs.Call.{Call, juries_in}
use Rattle.dispatch.specs.declared.refusal.JuryRefusal.{JuryRefusal}

-- All reasons: 19 for the number of juries, 20 for the gates per round, then those of the juries.
unfoldable pub dispatch_reasons : Call → List (Option Reason)
dispatch_reasons c =
    unless (leb 1 c.count && leb c.count most_juries) 19
    ∷ unless (leb 1 c.gates_per_round && leb c.gates_per_round most_gates_per_round) 20
    ∷ jury_reasons 0 (juries_in c) c.tables

abbrev pub dispatch_reason_numbers : List ℕ
dispatch_reason_numbers = 19 ∷ 20 ∷ run_reason_numbers

-- The number of a refusal's reason, with the jury as its place.
unfoldable pub jury_reason_of : JuryRefusal → Reason
jury_reason_of r = reason_at (reason_of r.reason).number r.jury

-- The reason of an answer, if it is a refusal.
unfoldable pub verdict_reason : {Told : Type 0} → Result Told JuryRefusal → Option Reason
verdict_reason (Ok told) = none
verdict_reason (Err r) = some (jury_reason_of r)

-- The numbers of rounds in an answer, 0 on a refusal.
unfoldable pub rounds_in : Result (List ℕ) JuryRefusal → List ℕ
rounds_in (Ok rounds) = rounds
rounds_in (Err r) = replicate most_juries 0

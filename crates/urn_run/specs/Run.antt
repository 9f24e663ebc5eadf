-- The entry point [urn-run]: a run on the ballots of an urn.
use Rattle.std.proofs.Math.Option.{Option}
use Rattle.std.specs.Prelude.{List, [], ◌∷◌, ◌++◌, ℕ, eqb, length}
use Rattle.gates.specs.Gate.{gates_of}
use Rattle.gates.specs.Test.{tested}
use Rattle.jury.specs.declared.shape.Shape.{Shape}
use Rattle.jury.specs.Shape.{graded_limits, ballot_bytes}
use Rattle.jury.specs.Reason.{Reason, unless, list_reason, first_of}
use Rattle.tally.specs.Answer.{size_of}
use Rattle.tally.specs.Run.{buffer_reasons, buffer_reason_numbers, RunResult, run_result_after}
use Rattle.urn_chains.specs.Chains.{Entry}
use Rattle.urn_chains.specs.Sound.{sound, entries_of}

-- The bytes of a chain's ballots, without gaps.
unfoldable pub joined_ballots : List Entry → List ℕ
joined_ballots [] = []
joined_ballots (e ∷ es) = e.ballot ++ joined_ballots es

-- The bytes of the ballots in an urn for k candidates and d grades, in chain order.
unfoldable pub chain_ballots : ℕ → ℕ → List ℕ → List ℕ
chain_ballots k d urn = joined_ballots (entries_of k d urn)

-- The number of ballots in an urn.
unfoldable pub ballots_in : ℕ → ℕ → List ℕ → ℕ
ballots_in k d urn = length (entries_of k d urn)

-- The reasons, in the order of their tests: 1, also for a ranking; 13; 2 and 3 of the list; 4 if n is not the
-- number of ballots in the urn; 7 to 10 of the buffers. The ballots of a sound urn are good, so 5 and 6 never
-- apply.
unfoldable pub urn_run_reasons : Shape → List ℕ → List ℕ → List ℕ → List ℕ → List ℕ → List (Option Reason)
urn_run_reasons s table urn tape wires board =
    unless (graded_limits s) 1
    ∷ unless (sound s.candidates s.grades urn) 13
    ∷ list_reason (tested (ballot_bytes s) s.candidates table)
    ∷ unless (eqb (ballots_in s.candidates s.grades urn) s.ballots) 4
    ∷ buffer_reasons (ballot_bytes s) s.candidates (size_of (gates_of table)) tape wires board

abbrev pub urn_run_reason_numbers : List ℕ
urn_run_reason_numbers = 1 ∷ 13 ∷ 2 ∷ 3 ∷ 4 ∷ buffer_reason_numbers

-- What a run on an urn leaves: no change on a refusal, else what a run on the chain's ballots leaves. The urn is
-- only read, so it is no part of the result.
unfoldable pub urn_run_result : Shape → List ℕ → List ℕ → List ℕ → List ℕ → List ℕ → RunResult
urn_run_result s table urn tape wires board =
    run_result_after (first_of (urn_run_reasons s table urn tape wires board)) s (gates_of table)
    (chain_ballots s.candidates s.grades urn) tape wires board

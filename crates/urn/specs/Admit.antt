-- Admission of a ballot.
use Rattle.std.specs.Prelude.{not, ◌&&◌, List, [], ◌∷◌, ◌++◌, ℕ, ◌+◌, ◌*◌, length, drop}
use Rattle.std.proofs.Math.Option.{Option}
use Rattle.jury.specs.Reason.{Reason, unless, first_of}
use Rattle.jury.specs.Ballots.{ballot_reasons}
use Rattle.tally.specs.Answer.{Outcome, outcome, afterwards}
use Rattle.urn_chains.specs.Slots.{Slot, bytes_of}
use Rattle.urn_chains.specs.Chains.{ballot_chain, free_chain, first_free, layout}
use Rattle.urn_chains.specs.Sound.{jury_of_one, graded_shape, good_juror, urn_slots}
use Rattle.urn.specs.Facts.{UrnFacts, facts_of, sound_in, ballots_in, present_in, full_in, UrnResult}

-- The reasons of an admission, in the order of their tests: 1, 13, 14, those of the ballot as in a jury of one (4,
-- 5, 6), then 15.
unfoldable pub admit_reasons : ℕ → ℕ → UrnFacts → ℕ → List ℕ → List (Option Reason)
admit_reasons k d facts juror ballot =
    unless (graded_shape k d) 1
    ∷ unless (sound_in facts) 13
    ∷ unless (good_juror juror && not (present_in facts)) 14
    ∷ (ballot_reasons (jury_of_one k d) ballot ++ (unless (not (full_in facts)) 15 ∷ []))

-- 11 and 12 never apply: a shape of rankings is refused for 1.
abbrev pub admit_reason_numbers : List ℕ
admit_reason_numbers = 1 ∷ 13 ∷ 14 ∷ 4 ∷ 5 ∷ 6 ∷ 15 ∷ []

-- The answer, given the facts about the urn: a reason, or the new number of ballots.
unfoldable pub admit_outcome_by : ℕ → ℕ → UrnFacts → ℕ → List ℕ → Outcome ℕ
admit_outcome_by k d facts juror ballot =
    outcome (first_of (admit_reasons k d facts juror ballot)) (ballots_in facts + 1)

-- The answer of an admission, and of its preview.
abbrev pub admit_outcome : ℕ → ℕ → List ℕ → ℕ → List ℕ → Outcome ℕ
admit_outcome k d urn juror ballot = admit_outcome_by k d (facts_of k d urn juror) juror ballot

-- The slots after an admission: the ballot is in the first free slot, which has left the free chain and is now the
-- first of the ballot chain.
unfoldable pub with_ballot : ℕ → List Slot → ℕ → List ℕ → List Slot
with_ballot b slots juror ballot =
    layout (length slots) b
    (record { slot = first_free (free_chain slots); juror = juror; ballot = ballot } ∷ ballot_chain slots)
    (drop 1 (free_chain slots))

-- The urn after an admission; on a refusal it is unchanged.
unfoldable pub admitted : ℕ → ℕ → List ℕ → ℕ → List ℕ → List ℕ
admitted k d urn juror ballot =
    afterwards (first_of (admit_reasons k d (facts_of k d urn juror) juror ballot))
    (bytes_of (with_ballot (k * d) (urn_slots k d urn) juror ballot)) urn

-- What an admission leaves: the contract of `admit` is an equation with this.
abbrev pub admission : ℕ → ℕ → List ℕ → ℕ → List ℕ → UrnResult
admission k d urn juror ballot =
    record { answer = admit_outcome k d urn juror ballot; urn = admitted k d urn juror ballot }

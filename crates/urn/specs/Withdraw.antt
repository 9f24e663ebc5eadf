-- Withdrawal of a ballot.
use Rattle.std.specs.Prelude.{cond, ◌&&◌, List, [], ◌∷◌, ℕ, ◌-◌, ◌*◌, eqb, length}
use Rattle.std.proofs.Math.Option.{Option}
use Rattle.jury.specs.Reason.{Reason, unless, first_of}
use Rattle.tally.specs.Answer.{Outcome, outcome, afterwards}
use Rattle.urn_chains.specs.Slots.{Slot, bytes_of}
use Rattle.urn_chains.specs.Chains.{Entry, ballot_chain, free_chain, layout}
use Rattle.urn_chains.specs.Sound.{graded_shape, good_juror, urn_slots}
use Rattle.urn.specs.Facts.{UrnFacts, facts_of, sound_in, ballots_in, present_in, UrnResult}

-- The reasons of a withdrawal, in the order of their tests: 1, 13, 14.
unfoldable pub withdraw_reasons : ℕ → ℕ → UrnFacts → ℕ → List (Option Reason)
withdraw_reasons k d facts juror =
    unless (graded_shape k d) 1
    ∷ unless (sound_in facts) 13
    ∷ unless (good_juror juror && present_in facts) 14
    ∷ []

abbrev pub withdraw_reason_numbers : List ℕ
withdraw_reason_numbers = 1 ∷ 13 ∷ 14 ∷ []

-- The answer, given the facts about the urn: a reason, or the new number of ballots.
unfoldable pub withdraw_outcome_by : ℕ → ℕ → UrnFacts → ℕ → Outcome ℕ
withdraw_outcome_by k d facts juror = outcome (first_of (withdraw_reasons k d facts juror)) (ballots_in facts - 1)

-- The answer of a withdrawal, and of its preview.
abbrev pub withdraw_outcome : ℕ → ℕ → List ℕ → ℕ → Outcome ℕ
withdraw_outcome k d urn juror = withdraw_outcome_by k d (facts_of k d urn juror) juror

-- The ballots without the first one of this juror. In a sound urn a juror has at most one.
unfoldable pub without_juror : ℕ → List Entry → List Entry
without_juror juror [] = []
without_juror juror (e ∷ es) = cond (eqb e.juror juror) es (e ∷ without_juror juror es)

-- The slot of this juror's ballot; 0 if there is none.
unfoldable pub slot_of_juror : ℕ → List Entry → ℕ
slot_of_juror juror [] = 0
slot_of_juror juror (e ∷ es) = cond (eqb e.juror juror) e.slot (slot_of_juror juror es)

-- The slots after a withdrawal: the juror's ballot is gone, and its slot is the first free one.
unfoldable pub without_ballot : ℕ → List Slot → ℕ → List Slot
without_ballot b slots juror =
    layout (length slots) b (without_juror juror (ballot_chain slots))
    (slot_of_juror juror (ballot_chain slots) ∷ free_chain slots)

-- The urn after a withdrawal; on a refusal it is unchanged.
unfoldable pub withdrawn : ℕ → ℕ → List ℕ → ℕ → List ℕ
withdrawn k d urn juror =
    afterwards (first_of (withdraw_reasons k d (facts_of k d urn juror) juror))
    (bytes_of (without_ballot (k * d) (urn_slots k d urn) juror)) urn

-- What a withdrawal leaves: the contract of `withdraw` is an equation with this.
abbrev pub withdrawal : ℕ → ℕ → List ℕ → ℕ → UrnResult
withdrawal k d urn juror = record { answer = withdraw_outcome k d urn juror; urn = withdrawn k d urn juror }

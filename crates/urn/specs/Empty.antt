-- A table made into an empty urn.
use Rattle.std.proofs.Math.Option.{Option}
use Rattle.std.specs.Prelude.{List, [], ◌∷◌, ℕ, suc, ◌-◌, ◌*◌, length}
use Rattle.basics.specs.Lists.{tabulate}
use Rattle.jury.specs.Reason.{Reason, unless, first_of}
use Rattle.tally.specs.Answer.{Outcome, outcome, afterwards}
use Rattle.urn_chains.specs.Slots.{Slot, bytes_of}
use Rattle.urn_chains.specs.Chains.{layout}
use Rattle.urn_chains.specs.Sound.{graded_shape, slot_count, urn_length}
use Rattle.urn.specs.Facts.{UrnResult}

-- The reasons: 1, then 13 if no urn has this length.
unfoldable pub empty_reasons : ℕ → ℕ → List ℕ → List (Option Reason)
empty_reasons k d table = unless (graded_shape k d) 1 ∷ unless (urn_length (k * d) (length table)) 13 ∷ []

abbrev pub empty_reason_numbers : List ℕ
empty_reason_numbers = 1 ∷ 13 ∷ []

-- The answer: a reason, or the number of ballots, which is 0.
unfoldable pub empty_outcome : ℕ → ℕ → List ℕ → Outcome ℕ
empty_outcome k d table = outcome (first_of (empty_reasons k d table)) 0

-- The n slots of an urn without ballots, for ballots of b bytes: slots 1, 2 and so on are free, in this order.
unfoldable pub all_free : ℕ → ℕ → List Slot
all_free n b = layout n b [] (tabulate (n - 1) suc)

-- The table after the call; on a refusal it is unchanged.
unfoldable pub emptied : ℕ → ℕ → List ℕ → List ℕ
emptied k d table =
    afterwards (first_of (empty_reasons k d table)) (bytes_of (all_free (slot_count (k * d) (length table)) (k * d)))
    table

-- What the call leaves: the contract of `empty` is an equation with this.
abbrev pub emptying : ℕ → ℕ → List ℕ → UrnResult
emptying k d table = record { answer = empty_outcome k d table; urn = emptied k d table }

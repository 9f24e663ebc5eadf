-- The facts about an urn that decide an admission or a withdrawal, and what a call leaves.
use Rattle.std.specs.Prelude.{Bool, true, false, cond, List, [], ◌∷◌, map, ℕ, length, Option, Some, None, Result, Ok, Err}
use Rattle.jury.specs.Reason.{reason_of}
use Rattle.tally.specs.Answer.{Outcome, refused, accepted}
use Rattle.jury.specs.declared.reason.Refusal.{Refusal}
use Rattle.urn.specs.declared.facts.Facts.{Facts}
use Rattle.urn_chains.specs.Chains.{Entry}
use Rattle.basics.specs.Lists.{member}
use Rattle.urn_chains.specs.Sound.{sound, entries_of, free_of}

unfoldable pub is_empty : List ℕ → Bool
is_empty [] = true
is_empty (i ∷ is) = false

unfoldable pub jurors_of : List Entry → List ℕ
jurors_of es = map (λ e. e.juror) es

-- The facts about a sound urn: how many ballots it has, whether this juror's is among them, and whether no slot is
-- free. There are none about an unsound urn.
abbrev pub UrnFacts : Type 0
UrnFacts = Option Facts

unfoldable pub facts_of : ℕ → ℕ → List ℕ → ℕ → UrnFacts
facts_of k d urn juror =
    cond (sound k d urn)
    (Some (record {
      ballots = length (entries_of k d urn);
      present = member juror (jurors_of (entries_of k d urn));
      full = is_empty (free_of k d urn);
    }))
    None

-- Whether the urn is sound, and what each of the facts says: nothing is said of an unsound urn.
abbrev pub sound_in : UrnFacts → Bool
sound_in (Some f) = true
sound_in None = false

abbrev pub ballots_in : UrnFacts → ℕ
ballots_in (Some f) = f.ballots
ballots_in None = 0

abbrev pub present_in : UrnFacts → Bool
present_in (Some f) = f.present
present_in None = false

abbrev pub full_in : UrnFacts → Bool
full_in (Some f) = f.full
full_in None = false

-- What a call leaves: its answer and the urn.
pub record UrnResult : Type 0 where
  pub answer : Outcome ℕ
  pub urn : List ℕ

-- What the program's answer means.
unfoldable pub counted_by : Result ℕ Refusal → Outcome ℕ
counted_by (Ok ballots) = accepted ballots
counted_by (Err r) = refused (reason_of r)

-- Examples with one candidate and two grades: the ballots are taken in the order of the chain, not of the slots;
-- and demand 3 on two concrete urns.
use Rattle.std.specs.Prelude.{◌≡◌, refl, List, [], ◌∷◌, ℕ}
use Rattle.gates.specs.HidingExample.{one_gate}
use Rattle.tally.specs.Answer.{accepted}
use Rattle.tally.specs.Examples.{one_ballot}
use Rattle.urn_chains.specs.Slots.{slot_bytes, slot_of, slots_of, slot_at}
use Rattle.urn_chains.specs.Chains.{chain, entry_at, ballot_slots, ballot_chain}
use Rattle.urn_chains.specs.Sound.{slot_count, urn_slots}
use Rattle.urn_run.specs.Run.{joined_ballots, chain_ballots, ballots_in, urn_run_result}

-- Two ballots: slot 2 comes first in the chain, slot 1 second.
unfoldable pub backwards : List ℕ
backwards = 2 ∷ 0 ∷ 0 ∷ 0 ∷ 0 ∷ 7 ∷ 1 ∷ 0 ∷ 1 ∷ 9 ∷ 0 ∷ 1 ∷ []

pub chain_order : chain_ballots 1 2 backwards ≡ 0 ∷ 1 ∷ 1 ∷ 0 ∷ []
unfolding backwards joined_ballots chain_ballots slot_bytes slot_of slots_of slot_at chain entry_at ballot_slots
    ballot_chain
    slot_count urn_slots
chain_order = refl

pub both : ballots_in 1 2 backwards ≡ 2
unfolding backwards ballots_in slot_bytes slot_of slots_of slot_at chain entry_at ballot_slots ballot_chain slot_count
    urn_slots
both = refl

-- Juror 9, in slot 1 of two slots, gave the better grade.
unfoldable pub better : List ℕ
better = 1 ∷ 0 ∷ 0 ∷ 0 ∷ 0 ∷ 9 ∷ 1 ∷ 0 ∷ []

-- Juror 7, in slot 2 of three slots, gave the worse grade; slot 1 is free.
unfoldable pub worse : List ℕ
worse = 2 ∷ 1 ∷ 0 ∷ 0 ∷ 0 ∷ 0 ∷ 0 ∷ 0 ∷ 0 ∷ 7 ∷ 0 ∷ 1 ∷ []

-- Runs on two urns with different lengths, jurors, slots and ballots: equal closing bytes, different tapes, the
-- same board. The list is a stranger's: one gate that says whether wires 0 and 1 are both 1.
pub record PairOfUrns : Type 0 where
  -- the better grade under the mask 0
  pub first_run : urn_run_result one_ballot one_gate better (0 ∷ []) (9 ∷ 9 ∷ 9 ∷ []) (9 ∷ 9 ∷ [])
      ≡ record { answer = accepted (record { gates = 1; conditional = 1 }); wires = 0 ∷ 0 ∷ 0 ∷ []; board = 1 ∷ 0 ∷ [] }
  -- the worse grade under the mask 1, over other old contents: the same board
  pub second_run : urn_run_result one_ballot one_gate worse (1 ∷ []) (7 ∷ 7 ∷ 7 ∷ []) (7 ∷ 7 ∷ [])
      ≡ record { answer = accepted (record { gates = 1; conditional = 1 }); wires = 0 ∷ 0 ∷ 0 ∷ []; board = 1 ∷ 0 ∷ [] }
  -- the worse grade under the mask 0: another board
  pub other_tape : (urn_run_result one_ballot one_gate worse (0 ∷ []) (7 ∷ 7 ∷ 7 ∷ []) (7 ∷ 7 ∷ [])).board ≡ 0 ∷ 0 ∷ []

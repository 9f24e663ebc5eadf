-- The example of two urns: each is sound, and the runs are those on their chains' ballots.
-- Assumes nothing.
use mathlib.Core.Path.{◌≡◌, ◌∙◌, refl, ap}
use mathlib.Core.Bool.{true}
use mathlib.Core.List.{List, [], ◌∷◌}
use Prim.Native.Nat.{ℕ}
use Rattle.gates.specs.Test.{first_above_one}
use Rattle.gates.specs.HidingExample.{one_gate}
use Rattle.jury.specs.Shape.{is_ranking, graded_limits, columns, ballot_bytes}
use Rattle.jury.specs.Reason.{unless, found_at, first_of}
use Rattle.jury.specs.Ballots.{ones, rows_of, first_bad_row, graded_reasons, ballot_kind_reasons, ballot_reasons}
use Rattle.basics.specs.Lists.{tabulate}
use Rattle.tally.specs.Run.{RunResult, run_result}
use Rattle.tally.specs.Examples.{one_ballot}
use Rattle.tally.proofs.Examples.{pair_of_runs}
use Rattle.urn_chains.specs.Slots.{slot_bytes, slot_of, slots_of, slot_at}
use Rattle.urn_chains.specs.Chains.{chain, ends, entry_at, ballot_slots, ballot_chain, free_chain}
use Rattle.basics.specs.Lists.{all, member, distinct}
use Rattle.urn_chains.specs.Sound.{jury_of_one, no_reason, good_ballot, good_juror, in_urn, each_once, good_chains, all_zero, empty_slot, sound_slots, slot_count, urn_length, urn_slots, sound}
use Rattle.urn_run.specs.Run.{joined_ballots, chain_ballots, urn_run_result}
use Rattle.urn_run.specs.Examples.{better, worse, PairOfUrns}
use Rattle.urn_run.proofs.Reasons.{same_run}

better_sound : sound 1 2 better ≡ true
unfolding better slot_bytes slot_of slots_of slot_at chain ends entry_at ballot_slots ballot_chain free_chain all member
    distinct jury_of_one no_reason good_ballot good_juror in_urn each_once good_chains all_zero empty_slot sound_slots
    slot_count urn_length urn_slots sound is_ranking columns ballot_bytes unless found_at first_of ones rows_of first_bad_row
    graded_reasons ballot_kind_reasons ballot_reasons tabulate first_above_one
better_sound = refl

worse_sound : sound 1 2 worse ≡ true
unfolding worse slot_bytes slot_of slots_of slot_at chain ends entry_at ballot_slots ballot_chain free_chain all member
    distinct jury_of_one no_reason good_ballot good_juror in_urn each_once good_chains all_zero empty_slot sound_slots
    slot_count urn_length urn_slots sound is_ranking columns ballot_bytes unless found_at first_of ones rows_of first_bad_row
    graded_reasons ballot_kind_reasons ballot_reasons tabulate first_above_one
worse_sound = refl

better_ballots : chain_ballots 1 2 better ≡ 1 ∷ 0 ∷ []
unfolding better joined_ballots chain_ballots slot_bytes slot_of slots_of slot_at chain entry_at ballot_slots ballot_chain slot_count
    urn_slots
better_ballots = refl

worse_ballots : chain_ballots 1 2 worse ≡ 0 ∷ 1 ∷ []
unfolding worse joined_ballots chain_ballots slot_bytes slot_of slots_of slot_at chain entry_at ballot_slots ballot_chain slot_count
    urn_slots
worse_ballots = refl

graded : graded_limits one_ballot ≡ true
unfolding one_ballot graded_limits
graded = refl

better_run : (tape wires board : List ℕ) → urn_run_result one_ballot one_gate better tape wires board
    ≡ run_result one_ballot one_gate (1 ∷ 0 ∷ []) tape wires board
unfolding one_ballot
better_run tape wires board =
    same_run one_ballot one_gate better tape wires board graded better_sound
    ∙ ap (λ (xs : List ℕ). run_result one_ballot one_gate xs tape wires board) better_ballots

worse_run : (tape wires board : List ℕ) → urn_run_result one_ballot one_gate worse tape wires board
    ≡ run_result one_ballot one_gate (0 ∷ 1 ∷ []) tape wires board
unfolding one_ballot
worse_run tape wires board =
    same_run one_ballot one_gate worse tape wires board graded worse_sound
    ∙ ap (λ (xs : List ℕ). run_result one_ballot one_gate xs tape wires board) worse_ballots

pub pair_of_urns : PairOfUrns
pair_of_urns =
    record {
      first_run = better_run _ _ _ ∙ pair_of_runs.first_run;
      second_run = worse_run _ _ _ ∙ pair_of_runs.second_run;
      other_tape = ap (λ (r : RunResult). r.board) (worse_run (0 ∷ []) (7 ∷ 7 ∷ 7 ∷ []) (7 ∷ 7 ∷ [])) ∙ pair_of_runs.other_tape;
    }

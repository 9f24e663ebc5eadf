-- One candidate and two grades, so a slot has four bytes. A table of three slots becomes an empty urn. The ballot
-- of juror 9 is admitted to an empty urn of two slots and withdrawn again.
use Rattle.std.specs.Prelude.{◌≡◌, refl, true, false, List, [], ◌∷◌, ℕ}
use Rattle.gates.specs.Test.{first_above_one}
use Rattle.jury.specs.Shape.{is_ranking, graded_limits, columns, ballot_bytes}
use Rattle.jury.specs.Reason.{unless, found_at, first_of}
use Rattle.jury.specs.Ballots.{ones, rows_of, first_bad_row, graded_reasons, ballot_kind_reasons, ballot_reasons}
use Rattle.basics.specs.Lists.{tabulate}
use Rattle.urn_chains.specs.Slots.{slot_bytes, slot_of, slots_of, bytes_of_slot, bytes_of, slot_at, free_slot}
use Rattle.urn_chains.specs.Chains.{chain, ends, entry_at, ballot_slots, ballot_chain, free_chain, first_entry, first_free, entry_slot, with_ballots, with_free, head_slot, layout}
use Rattle.basics.specs.Lists.{all, member, distinct}
use Rattle.urn_chains.specs.Sound.{jury_of_one, no_reason, good_ballot, good_juror, in_urn, each_once, good_chains, all_zero, empty_slot, sound_slots, slot_count, urn_length, urn_slots, sound}
use Rattle.urn.specs.Facts.{is_empty, jurors_of, facts_of}
use Rattle.urn.specs.Empty.{empty_reasons, all_free, emptied}
use Rattle.urn.specs.Admit.{admit_reasons, with_ballot, admitted}
use Rattle.tally.specs.Answer.{afterwards}
use Rattle.urn.specs.Withdraw.{withdraw_reasons, without_juror, slot_of_juror, without_ballot, withdrawn}

-- Two slots; slot 1 is free.
unfoldable pub empty_urn : List ℕ
empty_urn = 0 ∷ 1 ∷ 0 ∷ 0 ∷ 0 ∷ 0 ∷ 0 ∷ 0 ∷ []

-- The same with the ballot of juror 9, which gives the worse grade, in slot 1.
unfoldable pub one_ballot_in : List ℕ
one_ballot_in = 1 ∷ 0 ∷ 0 ∷ 0 ∷ 0 ∷ 9 ∷ 0 ∷ 1 ∷ []

pub empty_sound : sound 1 2 empty_urn ≡ true
unfolding empty_urn slot_bytes slot_of slots_of slot_at chain ends entry_at ballot_slots ballot_chain free_chain all
    member
    distinct good_juror in_urn each_once good_chains all_zero empty_slot sound_slots slot_count urn_length urn_slots
    sound
    tabulate
empty_sound = refl

-- the free slot names itself, so the free chain does not end
pub loop_unsound : sound 1 2 (0 ∷ 1 ∷ 0 ∷ 0 ∷ 1 ∷ 0 ∷ 0 ∷ 0 ∷ []) ≡ false
unfolding slot_bytes slot_of slots_of slot_at chain ends entry_at ballot_slots ballot_chain free_chain all member
    distinct
    good_juror in_urn each_once good_chains all_zero empty_slot sound_slots slot_count urn_length urn_slots sound
    tabulate
loop_unsound = refl

pub emptying_computes : emptied 1 2 (9 ∷ 9 ∷ 9 ∷ 9 ∷ 9 ∷ 9 ∷ 9 ∷ 9 ∷ 9 ∷ 9 ∷ 9 ∷ 9 ∷ [])
    ≡ 0 ∷ 1 ∷ 0 ∷ 0 ∷ 2 ∷ 0 ∷ 0 ∷ 0 ∷ 0 ∷ 0 ∷ 0 ∷ 0 ∷ []
unfolding slot_bytes bytes_of_slot bytes_of free_slot first_entry first_free with_ballots with_free head_slot layout
    jury_of_one
    slot_count urn_length afterwards empty_reasons all_free emptied graded_limits unless first_of tabulate
emptying_computes = refl

pub admission_computes : admitted 1 2 empty_urn 9 (0 ∷ 1 ∷ []) ≡ one_ballot_in
unfolding empty_urn one_ballot_in slot_bytes slot_of slots_of bytes_of_slot bytes_of slot_at free_slot chain ends
    entry_at
    ballot_slots ballot_chain free_chain first_entry first_free entry_slot with_ballots with_free head_slot layout all
    member
    distinct jury_of_one no_reason good_ballot good_juror in_urn each_once good_chains all_zero empty_slot sound_slots
    slot_count urn_length urn_slots sound is_empty jurors_of facts_of afterwards admit_reasons with_ballot admitted
    is_ranking graded_limits columns ballot_bytes unless found_at first_of ones rows_of first_bad_row graded_reasons
    ballot_kind_reasons ballot_reasons tabulate first_above_one
admission_computes = refl

pub withdrawal_computes : withdrawn 1 2 one_ballot_in 9 ≡ empty_urn
unfolding empty_urn one_ballot_in slot_bytes slot_of slots_of bytes_of_slot bytes_of slot_at free_slot chain ends
    entry_at
    ballot_slots ballot_chain free_chain first_entry first_free entry_slot with_ballots with_free head_slot layout all
    member
    distinct jury_of_one no_reason good_ballot good_juror in_urn each_once good_chains all_zero empty_slot sound_slots
    slot_count urn_length urn_slots sound is_empty jurors_of facts_of afterwards withdraw_reasons without_juror
    slot_of_juror
    without_ballot withdrawn is_ranking graded_limits columns ballot_bytes unless found_at first_of ones rows_of
    first_bad_row graded_reasons ballot_kind_reasons ballot_reasons tabulate first_above_one
withdrawal_computes = refl

-- `urn::withdraw::withdraw` meets its contract: the facts decide, and only an accepted withdrawal takes the ballot out.
-- Assumes nothing.
use mathlib.Core.Path.{◌≡◌, ◌∙◌, sym, ap}
use Prim.Native.Nat.{ℕ, ◌*◌}
use lib.ListN.{length, get_or}
use Rattle.jury.specs.Reason.{reason_of}
use Rattle.basics.proofs.Flags.{and_second, true_T}
use Rattle.urn_chains.specs.Slots.{bytes_of, slot_at}
use Rattle.urn_chains.specs.Chains.{chain, ballot_chain}
use Rattle.basics.specs.Lists.{member}
use Rattle.urn_chains.specs.Sound.{good_juror, slot_count, urn_slots}
use Rattle.urn_chains.proofs.SlotTests.{clash}
use mathlib.Core.List.{List}
use Rattle.std.specs.Prelude.{is_some}
use Rattle.tally.proofs.Exits.{exit}
use Rattle.urn_chains.specs.inner.Position.{placed_at}
use Rattle.urn.specs.inner.Position.{position_in}
use Rattle.urn.specs.Facts.{UrnFacts, jurors_of, facts_of, sound_in, present_in, counted_by}
use Rattle.urn.specs.Withdraw.{withdraw_outcome_by, without_ballot, withdrawn}
use Rattle.urn.proofs.FactLaws.{link_juror, link_found, not_looked, jurors_are, facts_sound, facts_present}
use Rattle.urn.proofs.Outcomes.{both_parts, withdrawable, accepted_none, refused_kept, none_new, some_old, withdraw_first_lem, withdraw_1, withdraw_13, outcome_refused}
use Rattle.urn.proofs.withdraw.withdraw.Goals as goal

pub returns-then-not-is_graded : goal.returns-then-not-is_graded
unfolding withdraw_outcome_by withdrawn counted_by reason_of
returns-then-not-is_graded c = let a = c.args in
    let e = withdraw_first_lem a.k a.d (facts_of a.k a.d a.urn.now a.juror) a.juror
    ∙ withdraw_1 _ _ _ (sym c.is_graded.ensures ∙ c.if-not-is_graded.true) in
    both_parts (outcome_refused _ _ _ e) (some_old _ _ _ _ e)

pub returns-in_err-looked : goal.returns-in_err-looked
unfolding withdraw_outcome_by withdrawn counted_by reason_of
returns-in_err-looked c =
    let a = c.args in
    let p = exit c.from_residual.result c.from_residual.ensures in
    let n = not_looked _ _ _ c.in_err-looked.ensures.value in
    let unsound = rw n.1 at c.check.ensures in
    let e = withdraw_first_lem a.k a.d (facts_of a.k a.d a.urn.now a.juror) a.juror
    ∙ withdraw_13 _ _ _ (sym c.is_graded.ensures ∙ c.if-not-is_graded.false) (ap sound_in unsound) in
    rw (p.1, p.2, n.0) (both_parts (outcome_refused _ _ _ e) (some_old _ _ _ _ e))

pub returns-in_err-ballots : goal.returns-in_err-ballots
unfolding withdrawn withdraw_outcome_by counted_by
returns-in_err-ballots c =
    let a = c.args in
    let p = exit c.from_residual-in_err-ballots.result c.from_residual-in_err-ballots.ensures in
    let looked = rw c.in_ok-looked.ensures.ok_part at c.check.ensures in
    let answered = c.in_err-ballots.ensures ∙ ap (λ (x : UrnFacts). withdraw_outcome_by a.k a.d x a.juror) (sym looked.told) in
    rw (p.1, p.2) (both_parts answered (sym (refused_kept _ _ _ _ _ (sym answered))))

-- the urn is sound, its check found the juror's ballot there, and the slot holds that ballot
module _ (k d : ℕ) (urn : List ℕ) (j before slot : ℕ) (found : position_in k d urn j ≡ placed_at before slot) where
  whose : (slot_at (urn_slots k d urn) slot).juror ≡ j
  unfolding position_in
  whose =
      let S = urn_slots k d urn in
      link_juror S j 0 (chain (slot_count (k * d) (length urn)) (get_or urn 0 0) S) before slot found

pub take_ballot-requires : goal.take_ballot-requires
take_ballot-requires c =
    let a = c.args in
    let looked = rw c.in_ok-looked.ensures.ok_part at c.check.ensures in
    let found = sym looked.placed ∙ c.in-Some.is in
    record {
      graded = true_T _ (sym c.is_graded.ensures ∙ c.if-not-is_graded.false);
      is_sound = facts_sound a.k a.d a.urn.now a.juror (ap sound_in looked.told);
      placed = ap (position_in a.k a.d a.urn.now) (whose a.k a.d a.urn.now a.juror _ _ found) ∙ found;
    }

pub returns-in-Some : goal.returns-in-Some
unfolding withdrawn withdraw_outcome_by counted_by
returns-in-Some c =
    let a = c.args in
    let looked = rw c.in_ok-looked.ensures.ok_part at c.check.ensures in
    let found = sym looked.placed ∙ c.in-Some.is in
    let answered = c.in_ok-ballots.ensures ∙ ap (λ (x : UrnFacts). withdraw_outcome_by a.k a.d x a.juror) (sym looked.told) in
    both_parts answered
    (c.take_ballot.ensures
    ∙ ap (λ (j : ℕ). bytes_of (without_ballot (a.k * a.d) (urn_slots a.k a.d a.urn.now) j)) (whose a.k a.d a.urn.now a.juror _ _ found)
    ∙ sym (none_new _ _ _ (accepted_none _ _ _ (sym answered))))

pub returns-in_default : goal.returns-in_default
unfolding position_in urn_slots withdraw_outcome_by counted_by
returns-in_default c =
    let a = c.args in
    let looked = rw c.in_ok-looked.ensures.ok_part at c.check.ensures in
    let answered = c.in_ok-ballots.ensures ∙ ap (λ (x : UrnFacts). withdraw_outcome_by a.k a.d x a.juror) (sym looked.told) in
    let f = facts_of a.k a.d a.urn.now a.juror in
    let p = withdrawable a.k a.d f a.juror (accepted_none _ _ _ (sym answered)) in
    let e = facts_sound a.k a.d a.urn.now a.juror p.is_sound in
    absurd
    (clash (member a.juror (jurors_of (ballot_chain (urn_slots a.k a.d a.urn.now))))
    (facts_present a.k a.d a.urn.now a.juror e (and_second (good_juror a.juror) (present_in f) p.juror))
    (ap (member a.juror) (jurors_are a.k a.d a.urn.now (true_T _ p.graded) e) ∙ sym (link_found _ _ 0 _)
    ∙ ap is_some (sym looked.placed ∙ c.in_default.is)))

-- `urn::admit::admit` meets its contract: the preview decides, and only an accepted ballot is put in.
-- Assumes nothing.
use mathlib.Core.Path.{◌∙◌, sym}
use mathlib.Core.Bool.{not}
use Rattle.basics.proofs.Flags.{and_first, true_T}
use Rattle.urn_chains.specs.Sound.{good_juror}
use Rattle.urn.specs.Facts.{facts_of, present_in, counted_by}
use Rattle.urn.specs.Admit.{admit_outcome_by, admitted}
use Rattle.urn_chains.proofs.BytesLaws.{good_length}
use Rattle.urn.proofs.FactLaws.{facts_sound, facts_free}
use Rattle.tally.proofs.Exits.{exit}
use Rattle.urn.proofs.Outcomes.{both_parts, admissible, accepted_none, refused_kept, none_new}
use Rattle.urn.proofs.admit.admit.Goals as goal

pub put_ballot-requires : goal.put_ballot-requires
unfolding admit_outcome_by counted_by
put_ballot-requires c =
    let a = c.args in
    let f = facts_of a.k a.d a.urn.now a.juror in
    let p = admissible a.k a.d f a.juror a.ballot.now (accepted_none _ _ _ (sym c.in_ok-ballots.ensures)) in
    let e = facts_sound a.k a.d a.urn.now a.juror p.is_sound in
    record {
      graded = true_T _ p.graded;
      is_sound = e;
      room = facts_free a.k a.d a.urn.now a.juror e p.free;
      numbered = and_first (good_juror a.juror) (not (present_in f)) p.juror;
      size = good_length a.k a.d a.ballot.now p.ballot;
    }

pub returns-in_err-ballots : goal.returns-in_err-ballots
unfolding admitted admit_outcome_by counted_by
returns-in_err-ballots c =
    let p = exit c.from_residual.result c.from_residual.ensures in
    let answered = c.in_err-ballots.ensures in
    rw (p.1, p.2) (both_parts answered (sym (refused_kept _ _ _ _ _ (sym answered))))

pub returns : goal.returns
unfolding admitted admit_outcome_by counted_by
returns c = both_parts c.in_ok-ballots.ensures (c.put_ballot.ensures ∙ sym (none_new _ _ _ (accepted_none _ _ _ (sym c.in_ok-ballots.ensures))))

-- Each branch answers what the definition gives for the outcomes of the tests.
use Rattle.std.proofs.Common.{◌∙◌, refl, sym, ap, ℕ}
use Rattle.std.specs.Prelude.{Err}
use Rattle.gates.specs.Test.{tested}
use Rattle.jury.specs.Shape.{within_limits}
use Rattle.jury.specs.Reason.{reason_of, refusal_of, list_reason}
use Rattle.basics.proofs.Flags.{true_T}
use Rattle.tally.specs.Answer.{outcome_of}
use Rattle.tally.proofs.TestReasons.{outside_list, list_refused, list_accepted}
use Rattle.tally.proofs.Exits.{exit}
use Rattle.tally.proofs.test.test.Goals as goal

pub returns-then-not-is_within_limits : goal.returns-then-not-is_within_limits
unfolding outcome_of reason_of
returns-then-not-is_within_limits c =
    let a = c.args in
    sym (outside_list a.shape a.table.now (sym c.is_within_limits.ensures ∙ c.if-not-is_within_limits.true))

pub ballot_bytes-requires : goal.ballot_bytes-requires
ballot_bytes-requires c =
    true_T (within_limits c.args.shape) (sym c.is_within_limits.ensures ∙ c.if-not-is_within_limits.false)

pub returns-in_err-size : goal.returns-in_err-size
unfolding outcome_of list_reason
returns-in_err-size c =
    let a = c.args in
    let fault = c.in_err-size.field-0.0 in
    let p = exit c.from_residual.result c.from_residual.ensures in
    rw (p.1, p.2)
    (sym (list_refused a.shape a.table.now (sym c.is_within_limits.ensures ∙ c.if-not-is_within_limits.false) (Err fault)
    (reason_of (refusal_of fault))
    (sym (c.in_err-size.ensures ∙ ap (λ (n : ℕ). tested n a.shape.candidates a.table.now) c.ballot_bytes.ensures)) refl))

pub returns : goal.returns
unfolding outcome_of
returns c =
    let a = c.args in
    let size = c.in_ok-size.size in
    sym (list_accepted a.shape a.table.now (sym c.is_within_limits.ensures ∙ c.if-not-is_within_limits.false) size.gates size.conditional
    (sym (c.in_ok-size.ensures ∙ ap (λ (n : ℕ). tested n a.shape.candidates a.table.now) c.ballot_bytes.ensures)))

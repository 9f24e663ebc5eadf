-- Each branch answers what the definition gives for the outcomes of the tests.
use Rattle.std.proofs.Common.{◌≡◌, ◌∙◌, sym, ap}
use mathlib.Core.Option.{Option, none, some}
use Rattle.jury.specs.Shape.{within_limits}
use Rattle.jury.specs.Reason.{Reason, reason_of, refused_for}
use Rattle.jury.specs.ClosingBytes.{eight_bytes}
use Rattle.jury.proofs.AcceptedLaws.{accepted}
use Rattle.basics.proofs.Flags.{true_T}
use Rattle.tally.specs.Rule.{closing_for}
use Rattle.tally.specs.Count.{count_reason, closing_after, plain_closing, count_refused, count_bytes}
use Rattle.tally.proofs.CountReason.{outside_reason, within_reason}
use Rattle.tally.proofs.Exits.{exit}
use Rattle.tally.proofs.count.count.Goals as goal

pub returns-then-not-is_within_limits : goal.returns-then-not-is_within_limits
unfolding count_refused count_bytes reason_of plain_closing closing_after eight_bytes
returns-then-not-is_within_limits c =
    let s = c.args.shape in
    let xs = c.args.ballots.now in
    let e = outside_reason s xs (sym c.is_within_limits.ensures ∙ c.if-not-is_within_limits.true) in
    record { verdict = sym e; closing = sym (ap (λ (r : Option Reason). closing_after r (closing_for s xs)) e) }

pub test-requires : goal.test-requires
test-requires c = true_T (within_limits c.args.shape) (sym c.is_within_limits.ensures ∙ c.if-not-is_within_limits.false)

pub returns-in_err-test : goal.returns-in_err-test
unfolding refused_for count_refused count_bytes plain_closing closing_after
returns-in_err-test c =
    let s = c.args.shape in
    let xs = c.args.ballots.now in
    let p = exit c.from_residual.result c.from_residual.ensures in
    let e : count_reason s xs ≡ some (reason_of c.in_err-test.field-0.0) =
    within_reason s xs (sym c.is_within_limits.ensures ∙ c.if-not-is_within_limits.false) ∙ sym c.in_err-test.ensures in
    rw (p.1, p.2) (record { verdict = sym e; closing = sym (ap (λ (r : Option Reason). closing_after r (closing_for s xs)) e) })

pub closing_bytes-requires : goal.closing_bytes-requires
unfolding refused_for
closing_bytes-requires c =
    accepted c.args.shape c.args.ballots.now (sym c.is_within_limits.ensures ∙ c.if-not-is_within_limits.false)
    (sym c.in_ok-test.ensures)

pub returns : goal.returns
unfolding refused_for count_refused count_bytes plain_closing closing_after
returns c =
    let s = c.args.shape in
    let xs = c.args.ballots.now in
    let e : count_reason s xs ≡ none =
    within_reason s xs (sym c.is_within_limits.ensures ∙ c.if-not-is_within_limits.false) ∙ sym c.in_ok-test.ensures in
    record {
      verdict = sym e;
      closing = c.closing_bytes.ensures ∙ sym (ap (λ (r : Option Reason). closing_after r (closing_for s xs)) e);
    }

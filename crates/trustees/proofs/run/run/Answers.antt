-- If the tests pass, the evaluation fills both tables, the closing bits are opened and the wire parts emptied;
-- otherwise nothing is touched.
use Rattle.std.proofs.Common.{◌≡◌, ◌∙◌, sym, ap, ℕ, replicate, arith}
use mathlib.Core.Option.{Option, none, some}
use Rattle.gates.specs.Gate.{gates_of}
use Rattle.jury.specs.Reason.{Reason, reason_of, first_of}
use Rattle.tally.specs.Answer.{Size, accepted, outcome, outcome_of, size_of, size_in}
use Rattle.tally.proofs.Exits.{exit}
use Rattle.tally.proofs.RunReasons.{outcome_refused, outcome_accepted}
use Rattle.trustees.specs.Call.{Call}
use Rattle.trustees.specs.Reasons.{trustees_reasons}
use Rattle.trustees.specs.Result.{trustees_result_after, tallied_outcome, tallied_closing}
use Rattle.trustees.proofs.Reasons.{call_passed, result_by, same_result}
use Rattle.trustees.proofs.Sums.{Ready, call_ready, opened_closing}
use Rattle.trustees.proofs.run.run.Goals as goal
use Rattle.trustees.proofs.run.run.Goals.{Start}

-- this call
abbrev call : Start → Call
call c =
    let a = c.args in
    record {
      shape = a.shape;
      table = a.table.now;
      ballots = a.ballots.now;
      trustees = a.t;
      lent = record {
        dealing = record { ballot_parts = a.shares.now; dealer_parts = a.triples.now };
        wire_parts = a.wires.now;
        published = a.published.now;
      };
    }

-- if the tests pass, no reason applies, and the answer is the list's own size
no_reason : (x : Call) (size : Size) → accepted size ≡ outcome (first_of (trustees_reasons x)) (size_of (gates_of x.table))
    → first_of (trustees_reasons x) ≡ none
no_reason x size e = outcome_accepted (first_of (trustees_reasons x)) (size_of (gates_of x.table)) size (sym e)

is_size : (x : Call) (size : Size) → accepted size ≡ outcome (first_of (trustees_reasons x)) (size_of (gates_of x.table))
    → size ≡ size_of (gates_of x.table)
unfolding outcome
is_size x size e =
    let own : accepted size ≡ accepted (size_of (gates_of x.table)) =
    e ∙ ap (λ (o : Option Reason). outcome o (size_of (gates_of x.table))) (no_reason x size e) in
    cc

ready : (x : Call) (size : Size) → accepted size ≡ outcome (first_of (trustees_reasons x)) (size_of (gates_of x.table))
    → Ready x size
ready x size e = call_ready x size (is_size x size e) (call_passed x (no_reason x size e))

pub returns-in_err-size : goal.returns-in_err-size
unfolding outcome_of tallied_outcome tallied_closing trustees_result_after
returns-in_err-size c =
    let x = call (goal.at.returns-in_err-size c).Start in
    let r = reason_of c.in_err-size.field-0.0 in
    let p = exit c.from_residual.result c.from_residual.ensures in
    rw (p.1, p.2) (sym (result_by x (some r)
    (outcome_refused (first_of (trustees_reasons x)) (size_of (gates_of x.table)) r (sym c.in_err-size.ensures))))

pub overflow_mul-factors : goal.overflow_mul-factors
unfolding outcome_of
overflow_mul-factors c =
    let x = call (goal.at.overflow_mul-factors c).Start in
    omega (arith, (ready x (size_in c.in_ok-size.size) c.in_ok-size.ensures).small)

pub evaluate-requires : goal.evaluate-requires
unfolding outcome_of
evaluate-requires c =
    (ready (call (goal.at.evaluate-requires c).Start) (size_in c.in_ok-size.size) c.in_ok-size.ensures).evaluate

pub overflow_add-factors : goal.overflow_add-factors
unfolding outcome_of
overflow_add-factors c =
    let x = call (goal.at.overflow_add-factors c).Start in
    omega (arith, (ready x (size_in c.in_ok-size.size) c.in_ok-size.ensures).small)

pub open_closing-closing-requires : goal.open_closing-closing-requires
unfolding outcome_of
open_closing-closing-requires c =
    let x = call (goal.at.open_closing-closing-requires c).Start in
    let known = ready x (size_in c.in_ok-size.size) c.in_ok-size.ensures in
    record {
      k_most = known.k_most;
      closing_in = omega arith;
      published_length = c.evaluate.auto.published ∙ known.published_length;
    }

pub returns : goal.returns
unfolding outcome_of outcome tallied_outcome tallied_closing trustees_result_after
returns c =
    let x = call (goal.at.returns c).Start in
    let size = size_in c.in_ok-size.size in
    let told = c.in_ok-size.ensures in
    same_result _ _ (ap accepted (is_size x size told))
    (c.open_closing-closing.ensures ∙ opened_closing x size (ready x size told) _ c.evaluate.ensures.shown)
    (c.fill.ensures.after (λ y e. e) ∙ ap (λ (n : ℕ). replicate n 0) c.evaluate.auto.wires) c.evaluate.ensures.shown
    ∙ sym (result_by x none (no_reason x size told))

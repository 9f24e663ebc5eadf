-- `text::write::write` meets its contract: each branch answers what the definition gives for the outcomes of the
-- tests.
-- Assumes nothing.
use mathlib.Core.Path.{◌∙◌, sym, ap}
use Prim.Native.Nat.{ℕ, ◌≤◌}
use native.Mathlib.Omega.{arith}
use lib.ListN.{length}
use Rattle.gates.specs.Gate.{gates_of}
use Rattle.gates.proofs.Evaluating.{accepted_list}
use Rattle.jury.specs.Shape.{ballot_bytes}
use Rattle.jury.specs.Reason.{reason_of, reason_at}
use Rattle.tally.specs.Answer.{accepted, outcome_of}
use Rattle.tally.proofs.TestReasons.{test_passed}
use Rattle.text.specs.Text.{text_of}
use Rattle.text.specs.Answer.{text_reason_of, length_outcome}
use Rattle.text.proofs.Storing.{sets_front}
use Rattle.text.proofs.Reasons.{same_text, text_of_list, text_short, text_good, text_refused, text_accepted}
use Rattle.tally.proofs.Exits.{exit}
use Rattle.text.proofs.write.write.Goals as goal
use Rattle.text.proofs.write.write.Goals.{Else-output-length}

pub text_length-length-requires : goal.text_length-length-requires
unfolding outcome_of
text_length-length-requires c = let a = c.args in
    (accepted_list (ballot_bytes a.shape) a.shape.candidates a.table.now _ _ (test_passed _ _ _ (sym c.in_ok-test.ensures)).tests).few

pub returns-then-output-length : goal.returns-then-output-length
unfolding length_outcome text_reason_of outcome_of
returns-then-output-length c = let a = c.args in
    same_text (text_refused a.shape a.table.now a.output.now (reason_at 24 0)
    (text_short a.shape a.table.now a.output.now (test_passed _ _ _ (sym c.in_ok-test.ensures)).reasons
    (omega (arith, c.if-output-length.true, c.text_length-length.ensures))))

-- the text has room
fits : (c : Else-output-length) → length (text_of (gates_of c.args.table.now))
    ≤ length c.args.output.now
fits c = omega (arith, c.if-output-length.false, c.text_length-length.ensures)

pub returns : goal.returns
unfolding length_outcome outcome_of
returns c = let a = c.args in
    let text = text_of (gates_of a.table.now) in
    let e = text_accepted a.shape a.table.now a.output.now
    (text_good a.shape a.table.now a.output.now (test_passed _ _ _ (sym c.in_ok-test.ensures)).reasons
    (fits (goal.at.returns c).Else-output-length)) in
    same_text (
      ap (λ (n : ℕ). accepted n) c.text_length-length.ensures ∙ e.0,
      c.put_text.ensures
          ∙ sets_front a.output.now text (fits (goal.at.returns c).Else-output-length) ∙ e.1,
    )

pub returns-in_err-test : goal.returns-in_err-test
unfolding length_outcome text_reason_of outcome_of
returns-in_err-test c =
    let a = c.args in
    let p = exit c.from_residual.result c.from_residual.ensures in
    let r = reason_of c.in_err-test.field-0.0 in
    rw (p.1, p.2) (same_text (text_refused a.shape a.table.now a.output.now r
    (text_of_list a.shape a.table.now a.output.now r (sym c.in_err-test.ensures))))

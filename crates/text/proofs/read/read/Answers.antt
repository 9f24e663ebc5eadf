-- `text::read::read` meets its contract: each branch answers what the definition gives for the outcomes of the
-- tests.
-- Assumes nothing.
use mathlib.Core.Path.{◌≡◌, ◌∙◌, sym, ap}
use mathlib.Core.Bool.{true}
use Prim.Native.Nat.{ℕ, ◌*◌, ◌<◌, ◌≤◌}
use native.Mathlib.Omega.{arith}
use lib.ListN.{length}
use Rattle.gates.specs.Gate.{numbers_of}
use Rattle.gates.specs.Test.{first_bad}
use Rattle.std.specs.Prelude.{None}
use Rattle.gates.proofs.Laws.{length_numbers}
use Rattle.jury.specs.Shape.{within_limits, ballot_bytes}
use Rattle.jury.specs.Reason.{reason_of, reason_at}
use Rattle.jury.proofs.Limits.{some_bytes, bounds, inputs_bound}
use Rattle.tally.specs.Answer.{accepted}
use Rattle.text.specs.Text.{lines_of, first_malformed, gates_in}
use Rattle.text.specs.Answer.{text_reason_of, length_outcome}
use Rattle.text.proofs.Storing.{sets_front}
use Rattle.text.proofs.Whole.{gates_many}
use Rattle.text.proofs.Reasons.{same_text, shape_outside, too_few, too_many, other_line, bad_gate, numbers_short, numbers_good, read_refused, read_accepted}
use Rattle.text.proofs.read.read.Goals as goal
use Rattle.text.proofs.read.read.Goals.{After-ballot_bytes, After-first_bad, Else-lines-gt-MOST_GATES, Else-lines-shape, Else-not-is_within_limits, Else-output-lines, In_default, In_default-first_bad}

pub returns-then-not-is_within_limits : goal.returns-then-not-is_within_limits
unfolding length_outcome text_reason_of reason_of
returns-then-not-is_within_limits c = let a = c.args in
    let w = c.is_within_limits in
    same_text (read_refused a.shape a.text.now a.output.now (reason_at 1 0)
    (shape_outside a.shape a.text.now a.output.now
    (sym w.ensures ∙ c.if-not-is_within_limits.true)))

-- what holds after each test that passed
limits : (c : Else-not-is_within_limits) → within_limits c.args.shape ≡ true
limits c = sym c.is_within_limits.ensures ∙ c.if-not-is_within_limits.false

enough : (c : Else-lines-shape) → c.args.shape.candidates ≤ length (lines_of c.args.text.now)
enough c = omega (arith, c.line_count-lines.ensures, c.if-lines-shape.false)

few : (c : Else-lines-gt-MOST_GATES) → length (lines_of c.args.text.now) ≤ 1048576
few c = omega (arith, c.line_count-lines.ensures, c.if-lines-gt-MOST_GATES.false)

gates_all : (c : In_default) → first_malformed 0 (lines_of c.args.text.now) ≡ None
gates_all c = sym c.first_malformed.ensures ∙ c.in_default.is

inputs_few : (c : After-ballot_bytes) → c.ballot_bytes.result < 4294967296
inputs_few c =
    let s = c.args.shape in
    omega (arith, c.ballot_bytes.ensures, inputs_bound s (bounds s (sym c.is_within_limits.ensures ∙ c.if-not-is_within_limits.false)))

inputs_some : (c : After-ballot_bytes) → 0 < c.ballot_bytes.result
inputs_some c =
    let s = c.args.shape in
    omega (arith, c.ballot_bytes.ensures, some_bytes s (sym c.is_within_limits.ensures ∙ c.if-not-is_within_limits.false))

tested : (c : After-first_bad)
    → first_bad (ballot_bytes c.args.shape) 0
    (gates_in (lines_of c.args.text.now)) ≡ c.first_bad.result
tested c =
    sym (c.first_bad.ensures ∙ ap (λ (n : ℕ). first_bad n 0
    (gates_in (lines_of c.args.text.now))) c.ballot_bytes.ensures)

gates_good : (c : In_default-first_bad)
    → first_bad (ballot_bytes c.args.shape) 0
    (gates_in (lines_of c.args.text.now)) ≡ None
gates_good c =
    sym (c.first_bad.ensures ∙ ap (λ (n : ℕ). first_bad n 0 (gates_in (lines_of c.args.text.now))) c.ballot_bytes.ensures)
    ∙ c.in_default-first_bad.is

pub returns-then-lines-shape : goal.returns-then-lines-shape
unfolding length_outcome text_reason_of reason_of
returns-then-lines-shape c = let a = c.args in
    same_text (read_refused a.shape a.text.now a.output.now (reason_at 2 0)
    (too_few a.shape a.text.now a.output.now (limits (goal.at.returns-then-lines-shape c).Else-not-is_within_limits)
    (omega (arith, c.line_count-lines.ensures, c.if-lines-shape.true))))

pub returns-then-lines-gt-MOST_GATES : goal.returns-then-lines-gt-MOST_GATES
unfolding length_outcome text_reason_of reason_of
returns-then-lines-gt-MOST_GATES c = let a = c.args in
    same_text (read_refused a.shape a.text.now a.output.now (reason_at 2 0)
    (too_many a.shape a.text.now a.output.now (limits (goal.at.returns-then-lines-gt-MOST_GATES c).Else-not-is_within_limits)
    (enough (goal.at.returns-then-lines-gt-MOST_GATES c).Else-lines-shape) (omega (arith, c.line_count-lines.ensures, c.if-lines-gt-MOST_GATES.true))))

pub first_bad-requires : goal.first_bad-requires
first_bad-requires c = record {
  some = inputs_some (goal.at.first_bad-requires c).After-ballot_bytes;
  few = inputs_few (goal.at.first_bad-requires c).After-ballot_bytes;
  formed = gates_all (goal.at.first_bad-requires c).In_default;
}

pub returns-then-output-lines : goal.returns-then-output-lines
unfolding length_outcome text_reason_of
returns-then-output-lines c = let a = c.args in
    same_text (read_refused a.shape a.text.now a.output.now (reason_at 24 0)
    (numbers_short a.shape a.text.now a.output.now (limits (goal.at.returns-then-output-lines c).Else-not-is_within_limits)
    (enough (goal.at.returns-then-output-lines c).Else-lines-shape)
    (few (goal.at.returns-then-output-lines c).Else-lines-gt-MOST_GATES) (gates_all (goal.at.returns-then-output-lines c).In_default)
    (gates_good (goal.at.returns-then-output-lines c).In_default-first_bad) (omega (arith, c.line_count-lines.ensures, c.if-output-lines.true))))

-- the numbers have room
fits : (c : Else-output-lines) → 4 * length (lines_of c.args.text.now) ≤ length c.args.output.now
fits c = omega (arith, c.line_count-lines.ensures, c.if-output-lines.false)

pub returns : goal.returns
unfolding length_outcome
returns c = let a = c.args in
    let text = a.text.now in
    let ns = numbers_of (gates_in (lines_of text)) in
    let room : length ns ≤ length a.output.now =
    omega (
      arith,
      length_numbers (gates_in (lines_of text)),
      gates_many (lines_of text) 0 (gates_all (goal.at.returns c).In_default),
      fits (goal.at.returns c).Else-output-lines,
    ) in
    let e = read_accepted a.shape text a.output.now
    (numbers_good a.shape text a.output.now (limits (goal.at.returns c).Else-not-is_within_limits)
    (enough (goal.at.returns c).Else-lines-shape)
    (few (goal.at.returns c).Else-lines-gt-MOST_GATES)
    (gates_all (goal.at.returns c).In_default) (gates_good (goal.at.returns c).In_default-first_bad)
    (fits (goal.at.returns c).Else-output-lines)) in
    same_text (
      ap (λ (n : ℕ). accepted (4 * n)) c.line_count-lines.ensures ∙ e.0,
      c.put_gates.ensures ∙ sets_front a.output.now ns room ∙ e.1,
    )

pub returns-in-Some : goal.returns-in-Some
unfolding length_outcome text_reason_of
returns-in-Some c =
    let a = c.args in
    same_text (read_refused a.shape a.text.now a.output.now (reason_at 23 c.in-Some.i)
    (other_line a.shape a.text.now a.output.now (limits (goal.at.returns-in-Some c).Else-not-is_within_limits)
    (enough (goal.at.returns-in-Some c).Else-lines-shape) (few (goal.at.returns-in-Some c).Else-lines-gt-MOST_GATES) c.in-Some.i (sym c.in-Some.ensures)))

pub returns-in-Some-first_bad : goal.returns-in-Some-first_bad
unfolding length_outcome text_reason_of reason_of
returns-in-Some-first_bad c =
    let a = c.args in
    same_text (read_refused a.shape a.text.now a.output.now (reason_at 3 c.in-Some-first_bad.g)
    (bad_gate a.shape a.text.now a.output.now (limits (goal.at.returns-in-Some-first_bad c).Else-not-is_within_limits)
    (enough (goal.at.returns-in-Some-first_bad c).Else-lines-shape)
    (few (goal.at.returns-in-Some-first_bad c).Else-lines-gt-MOST_GATES) (gates_all (goal.at.returns-in-Some-first_bad c).In_default)
    c.in-Some-first_bad.g (tested (goal.at.returns-in-Some-first_bad c).After-first_bad ∙ c.in-Some-first_bad.is)))

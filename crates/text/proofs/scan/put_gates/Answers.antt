-- `text::scan::put_gates` meets its contract: storing the rest from here on gives what storing all from the start
-- gives.
-- Assumes nothing.
use mathlib.Core.Path.{◌∙◌, sym, ap}
use lib.ListN.{drop, length-set}
use lib.Seq.{sets}
use native.Mathlib.Omega.{arith}
use Rattle.gates.specs.Gate.{numbers_of}
use Rattle.gates.proofs.Reading.{numbers_cons}
use Rattle.gates.proofs.Laws.{numbers_nil}
use Rattle.text.specs.Text.{lines_of, first_malformed, gates_in}
use Rattle.text.proofs.Scanning.{next_within, next_later, later_other, later_gates, later_lines, here_other, gates_end, not_both, nowhere_any}
use Rattle.text.proofs.Storing.{put_four, long_four}
use Rattle.text.proofs.scan.put_gates.Goals as goal

pub returns-in_default : goal.returns-in_default
returns-in_default c = not_both (first_malformed 0 (lines_of (drop c.loop-at.at c.args.text.now))) 0
    (here_other _ _ c.in_default.ensures c.loop-at-test.true 0) c.loop-at.invariant.1

pub offset_bounds-output-i : goal.offset_bounds-output-i
offset_bounds-output-i c = omega (arith, c.loop-at.invariant.2, later_lines c.args.text.now c.loop-at.at _ c.in-Some.ensures)

pub bounds-output-i : goal.bounds-output-i
bounds-output-i c = omega (arith, c.loop-at.invariant.2, later_lines c.args.text.now c.loop-at.at _ c.in-Some.ensures)

pub overflow_add-output : goal.overflow_add-output
overflow_add-output c = omega (arith, c.loop-at.invariant.2, later_lines c.args.text.now c.loop-at.at _ c.in-Some.ensures)

pub offset_bounds-output-i-in-loop-at : goal.offset_bounds-output-i-in-loop-at
offset_bounds-output-i-in-loop-at c = omega (arith, c.loop-at.invariant.2, later_lines c.args.text.now c.loop-at.at _ c.in-Some.ensures)

pub bounds-output-i-in-loop-at : goal.bounds-output-i-in-loop-at
bounds-output-i-in-loop-at c = simp length-set (omega (arith, c.loop-at.invariant.2, later_lines c.args.text.now c.loop-at.at _ c.in-Some.ensures))

pub overflow_add-output-in-loop-at : goal.overflow_add-output-in-loop-at
overflow_add-output-in-loop-at c = omega (arith, c.loop-at.invariant.2, later_lines c.args.text.now c.loop-at.at _ c.in-Some.ensures)

pub offset_bounds-output-i-in-loop-at-2 : goal.offset_bounds-output-i-in-loop-at-2
offset_bounds-output-i-in-loop-at-2 c = omega (arith, c.loop-at.invariant.2, later_lines c.args.text.now c.loop-at.at _ c.in-Some.ensures)

pub bounds-output-i-in-loop-at-2 : goal.bounds-output-i-in-loop-at-2
bounds-output-i-in-loop-at-2 c = simp length-set (omega (arith, c.loop-at.invariant.2, later_lines c.args.text.now c.loop-at.at _ c.in-Some.ensures))

pub overflow_add-output-in-loop-at-2 : goal.overflow_add-output-in-loop-at-2
overflow_add-output-in-loop-at-2 c = omega (arith, c.loop-at.invariant.2, later_lines c.args.text.now c.loop-at.at _ c.in-Some.ensures)

pub offset_bounds-output-i-in-loop-at-3 : goal.offset_bounds-output-i-in-loop-at-3
offset_bounds-output-i-in-loop-at-3 c = omega (arith, c.loop-at.invariant.2, later_lines c.args.text.now c.loop-at.at _ c.in-Some.ensures)

pub bounds-output-i-in-loop-at-3 : goal.bounds-output-i-in-loop-at-3
bounds-output-i-in-loop-at-3 c = simp length-set (omega (arith, c.loop-at.invariant.2, later_lines c.args.text.now c.loop-at.at _ c.in-Some.ensures))

pub overflow_add-i : goal.overflow_add-i
overflow_add-i c = omega (arith, c.loop-at.invariant.2, later_lines c.args.text.now c.loop-at.at _ c.in-Some.ensures)

pub loop-at-smaller : goal.loop-at-smaller
loop-at-smaller c = omega (arith, next_later c.args.text.now c.loop-at.at _ c.in-Some.ensures, c.loop-at-test.true)

pub loop-at-preserved : goal.loop-at-preserved
loop-at-preserved c =
    let l = c.loop-at in
    let text = c.args.text.now in
    let line = c.in-Some.line in
    let reads = c.in-Some.ensures in
    let rest = numbers_of (gates_in (lines_of (drop line.next text))) in (
      next_within text l.at _ reads,
      nowhere_any _ 1 0 (sym (later_other text l.at _ reads 0) ∙ l.invariant.1),
      omega (arith, l.invariant.2, long_four l.output l.i line.gate.kind line.gate.a line.gate.b line.gate.c, later_lines text l.at _ reads),
      long_four l.output l.i line.gate.kind line.gate.a line.gate.b line.gate.c ∙ l.invariant.3,
      put_four l.output l.i line.gate.kind line.gate.a line.gate.b line.gate.c rest
          ∙ ap (sets l.output l.i) (sym (ap numbers_of (later_gates text l.at _ reads)
          ∙ numbers_cons line.gate (gates_in (lines_of (drop line.next text)))))
          ∙ l.invariant.4,
    )

pub returns : goal.returns
returns c =
    let l = c.loop-at in
    sym (ap (sets l.output l.i) (ap numbers_of (gates_end c.args.text.now l.at c.loop-at-test.false) ∙ numbers_nil)) ∙ l.invariant.4

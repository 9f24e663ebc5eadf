-- Each branch answers what the definition gives for the outcomes of the tests.
use Rattle.std.proofs.Common.{◌≡◌, ◌∙◌, refl, sym, true, false, length}
use Rattle.std.specs.Prelude.{Some, None}
use Rattle.gates.specs.Test.{first_above_one}
use Rattle.jury.specs.Reason.{reason_of, refused_for, unless, found_at, first_of}
use Rattle.tally.specs.Answer.{size_in}
use Rattle.tally.proofs.RunReasons.{lent_found, lent_by, tape_test}
use Rattle.tally.proofs.run.test_buffers.Goals as goal
use Rattle.tally.proofs.run.test_buffers.Goals.{In_default}

-- the outcomes of the tests
tape_bits : (c : In_default) → first_above_one 0 c.args.tape.now ≡ None
tape_bits c = sym c.first_above_one.ensures ∙ c.in_default.is

pub returns-then-not-has_length : goal.returns-then-not-has_length
unfolding refused_for reason_of lent_found unless first_of
returns-then-not-has_length c =
    let a = c.args in
    sym (lent_by a.inputs a.outputs (size_in a.size) a.tape.now a.wires.now a.board.now false _ _ _
    (tape_test (length a.tape.now) a.size.conditional c.has_length.result false c.has_length.ensures c.if-not-has_length.true)
    refl refl refl)

pub returns-in-Some : goal.returns-in-Some
unfolding refused_for reason_of lent_found unless found_at first_of
returns-in-Some c =
    let a = c.args in
    sym (lent_by a.inputs a.outputs (size_in a.size) a.tape.now a.wires.now a.board.now true (Some c.in-Some.i) _ _
    (tape_test (length a.tape.now) a.size.conditional c.has_length.result true c.has_length.ensures c.if-not-has_length.false)
    (sym c.first_above_one.ensures ∙ c.in-Some.is) refl refl)

pub returns-then-not-has_length-2 : goal.returns-then-not-has_length-2
unfolding refused_for reason_of lent_found unless found_at first_of
returns-then-not-has_length-2 c =
    let a = c.args in
    let at = goal.at.returns-then-not-has_length-2 c in
    sym (lent_by a.inputs a.outputs (size_in a.size) a.tape.now a.wires.now a.board.now true None false _
    (tape_test (length a.tape.now) a.size.conditional c.has_length.result true c.has_length.ensures c.if-not-has_length.false)
    (tape_bits at.In_default)
    (sym c.has_length-2.ensures ∙ c.if-not-has_length-2.true) refl)

pub returns-then-not-has_length-3 : goal.returns-then-not-has_length-3
unfolding refused_for reason_of lent_found unless found_at first_of
returns-then-not-has_length-3 c =
    let a = c.args in
    let at = goal.at.returns-then-not-has_length-3 c in
    sym (lent_by a.inputs a.outputs (size_in a.size) a.tape.now a.wires.now a.board.now true None true false
    (tape_test (length a.tape.now) a.size.conditional c.has_length.result true c.has_length.ensures c.if-not-has_length.false)
    (tape_bits at.In_default)
    (sym c.has_length-2.ensures ∙ c.if-not-has_length-2.false)
    (sym c.has_length-3.ensures ∙ c.if-not-has_length-3.true))

pub returns : goal.returns
unfolding refused_for reason_of lent_found unless found_at first_of
returns c =
    let a = c.args in
    let at = goal.at.returns c in
    sym (lent_by a.inputs a.outputs (size_in a.size) a.tape.now a.wires.now a.board.now true None true true
    (tape_test (length a.tape.now) a.size.conditional c.has_length.result true c.has_length.ensures c.if-not-has_length.false)
    (tape_bits at.In_default)
    (sym c.has_length-2.ensures ∙ c.if-not-has_length-2.false)
    (sym c.has_length-3.ensures ∙ c.if-not-has_length-3.false))

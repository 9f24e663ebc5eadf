-- Each branch answers what the definition gives for the outcomes of the tests.
use Rattle.std.proofs.Common.{◌∙◌, refl, sym, true, false, length}
use Rattle.jury.specs.Reason.{reason_of, refused_for, unless, found_at, first_of}
use Rattle.tally.specs.Answer.{size_in}
use Rattle.tally.proofs.RunReasons.{lent_found, tape_test}
use Rattle.batch.proofs.Reasons.{lent_by}
use Rattle.batch.proofs.run.test_buffers.Goals as goal

pub returns-then-not-has_length : goal.returns-then-not-has_length
unfolding refused_for reason_of lent_found unless found_at first_of
returns-then-not-has_length c =
    let a = c.args in
    sym (lent_by a.inputs a.outputs (size_in a.size) a.tape.now a.wires.now a.board.now false _ _
    (tape_test (length a.tape.now) a.size.conditional c.has_length.result false c.has_length.ensures c.if-not-has_length.true)
    refl refl)

pub returns-then-not-has_length-2 : goal.returns-then-not-has_length-2
unfolding refused_for reason_of lent_found unless found_at first_of
returns-then-not-has_length-2 c =
    let a = c.args in
    sym (lent_by a.inputs a.outputs (size_in a.size) a.tape.now a.wires.now a.board.now true false _
    (tape_test (length a.tape.now) a.size.conditional c.has_length.result true c.has_length.ensures c.if-not-has_length.false)
    (sym c.has_length-2.ensures ∙ c.if-not-has_length-2.true) refl)

pub returns-then-not-has_length-3 : goal.returns-then-not-has_length-3
unfolding refused_for reason_of lent_found unless found_at first_of
returns-then-not-has_length-3 c =
    let a = c.args in
    sym (lent_by a.inputs a.outputs (size_in a.size) a.tape.now a.wires.now a.board.now true true false
    (tape_test (length a.tape.now) a.size.conditional c.has_length.result true c.has_length.ensures c.if-not-has_length.false)
    (sym c.has_length-2.ensures ∙ c.if-not-has_length-2.false)
    (sym c.has_length-3.ensures ∙ c.if-not-has_length-3.true))

pub returns : goal.returns
unfolding refused_for reason_of lent_found unless found_at first_of
returns c =
    let a = c.args in
    sym (lent_by a.inputs a.outputs (size_in a.size) a.tape.now a.wires.now a.board.now true true true
    (tape_test (length a.tape.now) a.size.conditional c.has_length.result true c.has_length.ensures c.if-not-has_length.false)
    (sym c.has_length-2.ensures ∙ c.if-not-has_length-2.false)
    (sym c.has_length-3.ensures ∙ c.if-not-has_length-3.false))

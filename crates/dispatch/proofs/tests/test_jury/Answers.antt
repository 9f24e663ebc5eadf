-- `dispatch::tests::test_jury` meets its contract: the tests of a run in their order, each on a piece of what is left.
use Rattle.std.proofs.Common.{◌≡◌, ◌∙◌, sym, ap, List, ℕ, ◌+◌, ◌*◌, length, take, arith}
use Rattle.std.specs.Prelude.{Ok}
use Rattle.std.proofs.Math.Option.{none}
use Rattle.std.proofs.Math.Seq.{length-take-le}
use Rattle.basics.proofs.Flags.{true_T}
use Rattle.jury.specs.Shape.{within_limits, ballot_bytes}
use Rattle.jury.specs.Reason.{refused_for, first_of}
use Rattle.jury.specs.Ballots.{ballot_reasons}
use Rattle.gates.specs.declared.list.ListSize.{ListSize}
use Rattle.tally.specs.Answer.{size_in, outcome_of}
use Rattle.tally.proofs.Exits.{exit}
use Rattle.tally.specs.Test.{test_outcome}
use Rattle.tally.specs.Run.{buffer_reasons}
use Rattle.dispatch_rounds.specs.declared.header.JuryHeader.{JuryHeader}
use Rattle.dispatch_rounds.specs.Tables.{Tables, tables_of, header_shape, pieces_of, fitting}
use Rattle.dispatch.proofs.JuryTests.{fitting_most, list_piece, ballots_piece, tape_piece, wires_piece, board_piece, stated_size}
use Rattle.dispatch.proofs.OneJury.{list_refused, list_passed, ballots_refused, buffers_refused, jury_accepts}
use Rattle.dispatch.proofs.tests.test_jury.Goals as goal
use Rattle.dispatch.proofs.tests.test_jury.Goals.{In_ok-size, In_ok-test}

pub slice_bounds-test-end : goal.slice_bounds-test-end
slice_bounds-test-end c =
    let n = c.numbers_fitting-numbers in
    sym (length-take-le n.result c.args.lists.now
    (omega (arith, n.ensures, fitting_most (4 * c.args.header.gates) (length c.args.lists.now))))

pub returns-in_err-size : goal.returns-in_err-size
returns-in_err-size c =
    let h = c.args.header in
    let t = tables_of c.args.lists.now c.args.ballots.now c.args.tapes.now c.args.wires.now c.args.boards.now in
    let n = c.numbers_fitting-numbers in
    let p = exit c.from_residual.result c.from_residual.ensures in
    rw (p.1, p.2) (list_refused h t c.in_err-size.field-0.0
    (c.in_err-size.ensures ∙ ap (test_outcome (header_shape h)) (list_piece h t n.result n.ensures)))

-- the test of the list, on its piece
tested : (c : In_ok-size) → let t = tables_of c.args.lists.now c.args.ballots.now c.args.tapes.now c.args.wires.now c.args.boards.now in
    outcome_of (Ok c.in_ok-size.size) ≡ test_outcome (header_shape c.args.header) (pieces_of c.args.header t).lists
tested c =
    let t = tables_of c.args.lists.now c.args.ballots.now c.args.tapes.now c.args.wires.now c.args.boards.now in
    let n = c.numbers_fitting-numbers in
    c.in_ok-size.ensures ∙ ap (test_outcome (header_shape c.args.header)) (list_piece c.args.header t n.result n.ensures)

pub ballot_bytes-inputs-requires : goal.ballot_bytes-inputs-requires
ballot_bytes-inputs-requires c =
    let t = tables_of c.args.lists.now c.args.ballots.now c.args.tapes.now c.args.wires.now c.args.boards.now in
    true_T (within_limits (header_shape c.args.header))
    (list_passed c.args.header t c.in_ok-size.size (tested (goal.at.ballot_bytes-inputs-requires c).In_ok-size)).within

pub slice_bounds-test-end-2 : goal.slice_bounds-test-end-2
slice_bounds-test-end-2 c =
    let n = c.bytes_fitting-ballot_bytes in
    sym (length-take-le n.result c.args.ballots.now
    (omega (arith, n.ensures, fitting_most (c.ballot_bytes-inputs.result + 0) (length c.args.ballots.now))))

pub test-requires-2 : goal.test-requires-2
test-requires-2 c =
    let t = tables_of c.args.lists.now c.args.ballots.now c.args.tapes.now c.args.wires.now c.args.boards.now in
    true_T (within_limits (header_shape c.args.header))
    (list_passed c.args.header t c.in_ok-size.size (tested (goal.at.test-requires-2 c).In_ok-size)).within

pub returns-in_err-test : goal.returns-in_err-test
returns-in_err-test c =
    let h = c.args.header in
    let t = tables_of c.args.lists.now c.args.ballots.now c.args.tapes.now c.args.wires.now c.args.boards.now in
    let n = c.bytes_fitting-ballot_bytes in
    let i = c.ballot_bytes-inputs in
    let p = exit c.from_residual-in_err-test.result c.from_residual-in_err-test.ensures in
    rw (p.1, p.2) (ballots_refused h t c.in_ok-size.size (tested (goal.at.returns-in_err-test c).In_ok-size) c.in_err-test.field-0.0
    (c.in_err-test.ensures ∙ ap (λ (x : List ℕ). first_of (ballot_reasons (header_shape h) x))
    (ballots_piece h t i.result n.result i.ensures n.ensures)))

-- the test of the ballots, on their piece
no_reason : (c : In_ok-test) → let t = tables_of c.args.lists.now c.args.ballots.now c.args.tapes.now c.args.wires.now c.args.boards.now in
    first_of (ballot_reasons (header_shape c.args.header) (pieces_of c.args.header t).ballots) ≡ none
unfolding refused_for
no_reason c =
    let t = tables_of c.args.lists.now c.args.ballots.now c.args.tapes.now c.args.wires.now c.args.boards.now in
    let n = c.bytes_fitting-ballot_bytes in
    let i = c.ballot_bytes-inputs in
    sym (c.in_ok-test.ensures ∙ ap (λ (x : List ℕ). first_of (ballot_reasons (header_shape c.args.header) x))
    (ballots_piece c.args.header t i.result n.result i.ensures n.ensures))

pub slice_bounds-test_buffers-end : goal.slice_bounds-test_buffers-end
slice_bounds-test_buffers-end c =
    let n = c.bytes_fitting-masks in
    sym (length-take-le n.result c.args.tapes.now
    (omega (arith, n.ensures, fitting_most (c.in_ok-size.size.conditional + 0) (length c.args.tapes.now))))

pub slice_bounds-test_buffers-end-2 : goal.slice_bounds-test_buffers-end-2
slice_bounds-test_buffers-end-2 c =
    let n = c.bytes_fitting-values in
    sym (length-take-le n.result c.args.wires.now
    (omega (arith, n.ensures, fitting_most (c.ballot_bytes-inputs.result + c.in_ok-size.size.gates) (length c.args.wires.now))))

pub slice_bounds-test_buffers-end-3 : goal.slice_bounds-test_buffers-end-3
slice_bounds-test_buffers-end-3 c =
    let n = c.bytes_fitting-shown in
    sym (length-take-le n.result c.args.boards.now
    (omega (arith, n.ensures, fitting_most (c.in_ok-size.size.conditional + c.args.header.candidates) (length c.args.boards.now))))

-- the buffers that were tested are the jury's pieces
lent : (h : JuryHeader) (t : Tables) (size : ListSize) (e : outcome_of (Ok size) ≡ test_outcome (header_shape h) (pieces_of h t).lists)
    (i m v o : ℕ) → i ≡ ballot_bytes (header_shape h) → m ≡ fitting (size.conditional + 0) (length t.tapes)
    → v ≡ fitting (i + size.gates) (length t.wires) → o ≡ fitting (size.conditional + h.candidates) (length t.boards)
    → first_of (buffer_reasons i h.candidates (size_in size) (take m t.tapes) (take v t.wires) (take o t.boards))
    ≡ first_of (buffer_reasons (ballot_bytes (header_shape h)) h.candidates (size_in size) (pieces_of h t).tapes (pieces_of h t).wires
    (pieces_of h t).boards)
lent h t size e i m v o ie me ve oe =
    let facts = stated_size h t (size_in size) (list_passed h t size e) in
    let p = pieces_of h t in
    ap (λ (x : ℕ). first_of (buffer_reasons x h.candidates (size_in size) (take m t.tapes) (take v t.wires) (take o t.boards))) ie
    ∙ ap (λ (x : List ℕ). first_of (buffer_reasons (ballot_bytes (header_shape h)) h.candidates (size_in size) x (take v t.wires) (take o t.boards)))
    (tape_piece h t size.conditional m facts.1 me)
    ∙ ap (λ (x : List ℕ). first_of (buffer_reasons (ballot_bytes (header_shape h)) h.candidates (size_in size) p.tapes x (take o t.boards)))
    (wires_piece h t i size.gates v ie facts.0 ve)
    ∙ ap (λ (x : List ℕ). first_of (buffer_reasons (ballot_bytes (header_shape h)) h.candidates (size_in size) p.tapes p.wires x))
    (board_piece h t size.conditional o facts.1 oe)

pub returns-in_err-test_buffers : goal.returns-in_err-test_buffers
returns-in_err-test_buffers c =
    let h = c.args.header in
    let t = tables_of c.args.lists.now c.args.ballots.now c.args.tapes.now c.args.wires.now c.args.boards.now in
    let e = tested (goal.at.returns-in_err-test_buffers c).In_ok-size in
    let p = exit c.from_residual-in_err-test_buffers.result c.from_residual-in_err-test_buffers.ensures in
    rw (p.1, p.2) (buffers_refused h t c.in_ok-size.size e (no_reason (goal.at.returns-in_err-test_buffers c).In_ok-test)
    c.in_err-test_buffers.field-0.0
    (c.in_err-test_buffers.ensures ∙ lent h t c.in_ok-size.size e _ _ _ _ c.ballot_bytes-inputs.ensures
    c.bytes_fitting-masks.ensures c.bytes_fitting-values.ensures c.bytes_fitting-shown.ensures))

pub returns : goal.returns
unfolding refused_for
returns c =
    let h = c.args.header in
    let t = tables_of c.args.lists.now c.args.ballots.now c.args.tapes.now c.args.wires.now c.args.boards.now in
    let e = tested (goal.at.returns c).In_ok-size in
    jury_accepts h t c.in_ok-size.size e (no_reason (goal.at.returns c).In_ok-test)
    (c.in_ok-test_buffers.ensures ∙ lent h t c.in_ok-size.size e _ _ _ _ c.ballot_bytes-inputs.ensures
    c.bytes_fitting-masks.ensures c.bytes_fitting-values.ensures c.bytes_fitting-shown.ensures)

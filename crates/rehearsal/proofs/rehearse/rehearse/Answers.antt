-- `rehearsal::rehearse::rehearse` meets its contract: a shape outside the limits is refused; otherwise the list is
-- written and run.
use Rattle.std.proofs.Common.{sym, arith}
use Rattle.jury.specs.Shape.{within_limits}
use Rattle.jury.proofs.Constructed.{shape_is, outside_is}
use Rattle.tally.proofs.Exits.{exit}
use Rattle.rehearsal.specs.Rehearsal.{shape_of_input, outcome_on}
use Rattle.rehearsal.specs.inner.Rehearses.{end_on}
use Rattle.rehearsal.proofs.Rehearsing.{by_the_limits}
use Rattle.rehearsal.proofs.rehearse.rehearse.Goals as goal

pub returns-in_err-shape : goal.returns-in_err-shape
unfolding outcome_on end_on
returns-in_err-shape c =
    let s = shape_of_input c.args.input.now in
    let o = outside_is (within_limits s) s c.in_err-shape.field-0.0 (sym c.in_err-shape.ensures) in
    let p = exit c.from_residual.result c.from_residual.ensures in
    rw (p.1, p.2, o.1) (record { answers = by_the_limits c.args.input.now c.args.table.now o.0; on_board = omega arith })

pub rehearse_shape-requires : goal.rehearse_shape-requires
rehearse_shape-requires c =
    let s = shape_of_input c.args.input.now in
    record { shape_is = shape_is (within_limits s) s c.in_ok-shape.shape (sym c.in_ok-shape.ensures); buffers = c.requires }

-- `rehearsal::main` is safe: the buffers are as long as the rehearsal requires, and the closing bytes lie on the
-- board.
use Rattle.std.proofs.Common.{arith}
use Rattle.rehearsal.specs.inner.Rehearses.{end_on}
use Rattle.rehearsal.proofs.main.Goals as goal

-- the closing bytes end on the board, which has 4,008 bytes
pub overflow_add-end : goal.overflow_add-end
unfolding end_on
overflow_add-end c = record { fits = omega (arith, c.in-Ok.ensures.on_board) }

pub slice_bounds-print_bytes-end-in-Ok : goal.slice_bounds-print_bytes-end-in-Ok
unfolding end_on
slice_bounds-print_bytes-end-in-Ok c = omega (arith, c.in-Ok.ensures.on_board)

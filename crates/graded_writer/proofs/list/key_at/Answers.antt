-- `graded_writer::list::key_at` meets its contract: a key ends where its candidate's circuit does.
-- Assumes nothing.
use native.Mathlib.Omega.{arith}
use Rattle.graded_writer.proofs.ListWriters.{key_from}
use Rattle.graded_writer.proofs.list.key_at.Goals as goal

pub overflow_sub-result : goal.overflow_sub-result
overflow_sub-result c = omega (
  arith,
  c.key_span.ensures,
  key_from c.args.p c.args.c c.args.span
      c.requires.span_is,
)

pub returns : goal.returns
returns c = omega (
  arith,
  c.key_span.ensures,
  key_from c.args.p c.args.c c.args.span
      c.requires.span_is,
)

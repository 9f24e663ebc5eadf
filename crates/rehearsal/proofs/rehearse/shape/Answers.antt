-- `rehearsal::rehearse::shape` meets its contract: the constructor answers for the shape of the first three bytes.
use Rattle.std.proofs.Common.{◌∙◌}
use Rattle.rehearsal.specs.Rehearsal.{shape_of_input}
use Rattle.rehearsal.proofs.rehearse.shape.Goals as goal

pub returns : goal.returns
unfolding shape_of_input
returns c = c.new.ensures.result ∙ rw (c.byte.ensures, c.byte-2.ensures, c.byte-3.ensures)

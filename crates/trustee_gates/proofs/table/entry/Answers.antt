-- `trustee_gates::table::entry` meets its contract: the place lies within the table.
-- Assumes nothing.
use mathlib.Core.Path.{sym}
use Rattle.trustee_gates.proofs.Puts.{part_piece}
use Rattle.trustee_gates.proofs.table.entry.Goals as goal

pub returns : goal.returns
returns c = let a = c.args in sym (part_piece a.size a.table.now a.p a.index c.requires.inside)

-- `graded_writer::list::best_of_four` meets its contract: a single candidate is compared with nobody.
-- Assumes nothing.
use mathlib.Core.Path.{sym}
use mathlib.Core.List.{[]}
use Rattle.gate_words.proofs.Writing.{wrote_nothing, wrote_as}
use Rattle.graded_circuit.proofs.LevelsLaws.{levels_one}
use Rattle.graded_writer.proofs.list.best_of_four.Goals as goal

pub returns-then-count-le1 : goal.returns-then-count-le1
returns-then-count-le1 c = let a = c.args in
    wrote_as a.w a.table.now [] _ a.table.now a.w
    (sym (levels_one a.p 1 a.count a.w.wire a.c c.if-count-le1.true)) (wrote_nothing a.w a.table.now)

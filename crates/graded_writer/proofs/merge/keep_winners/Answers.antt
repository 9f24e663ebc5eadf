-- `graded_writer::merge::keep_winners` meets its contract: a copy for a single candidate, else a gate for each.
-- Assumes nothing.
use mathlib.Core.Path.{◌≡◌}
use mathlib.Core.Logic.{⊎_elim}
use Prim.Native.Nat.{ℕ, ◌≤◌, ◌<◌}
use native.Mathlib.Omega.{arith}
use Rattle.basics.proofs.Cases.{below_or_not}
use Rattle.gate_words.proofs.Writing.{wrote_as}
use Rattle.gate_words.proofs.Emitting.{copy_wrote}
use Rattle.graded_writer.proofs.ListWriters.{won_single, won_many}
use Rattle.graded_writer.proofs.merge.keep_winners.Goals as goal

more_than_one : (m : ℕ) → 0 < m → (m ≡ 1 → ⊥) → 1 < m
more_than_one m h e = ⊎_elim (λ (z : 1 < m). z) (λ (z : m ≤ 1). absurd (e (omega arith))) (below_or_not 1 m)

pub returns-then-count-eq1 : goal.returns-then-count-eq1
returns-then-count-eq1 c = let a = c.args in
    wrote_as a.w a.table.now _ _ _ _
    (won_single a.at a.stays a.count c.if-count-eq1.true)
    (copy_wrote a.w a.table.now c.emit.new.table c.emit.result
    a.stays 0 0 c.emit.ensures)

pub returns : goal.returns
returns c = let a = c.args in
    wrote_as a.w a.table.now _ _ _ _
    (won_many a.at a.stays a.count
    (more_than_one a.count c.requires.some
    c.if-count-eq1.false)) c.and_all.ensures

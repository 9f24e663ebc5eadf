-- `rule_judgment::rule::first_winner` meets its contract: none of the candidates seen so far precedes the one kept.
-- Assumes nothing.
use Prim.Native.Nat.{◌<◌}
use Rattle.jury.specs.inner.Counts.{rows_in}
use Rattle.rule_judgment.proofs.Leading.{Leads}
use Rattle.rule_judgment.proofs.rule.first_winner.Given as goal

abbrev pub invariant-loop-c : goal.invariant-loop-c
invariant-loop-c l = (l.first < l.shape.candidates) × Leads (rows_in l.shape.candidates l.shape.grades l.counts) l.first l.c

-- `rule_schulze::rule::strongest_paths` meets its contract: after l turns the table has the detours over the
-- candidates below l.
-- Assumes nothing.
use Rattle.rule_schulze.specs.Closure.{closure}
use Rattle.rule_schulze.specs.inner.Tables.{entry, HoldsPairs}
use Rattle.rule_schulze.proofs.rule.strongest_paths.Given as goal

abbrev pub invariant-loop-l : goal.invariant-loop-l
invariant-loop-l l = HoldsPairs l.k l.paths (closure l.l (entry l.initial.paths))

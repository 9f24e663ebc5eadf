-- `rule_schulze::rule::links_of` meets its contract: below j the row has the strengths of the links.
-- Assumes nothing.
use borrow.Author.Rules.{rules}
use Rattle.rule_schulze.specs.Schulze.{link}
use Rattle.rule_schulze.proofs.rule.links_of.Goals as goal

pub loop-j-preserved : goal.loop-j-preserved
unfolding link
loop-j-preserved c = search rules

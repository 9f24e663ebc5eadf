-- `rule_schulze::count::closing_bytes` meets its contract: the rule reads only the votes between the k candidates.
-- Assumes nothing.
use mathlib.Core.Path.{◌∙◌, ap}
use Rattle.jury.specs.ClosingBytes.{eight_bytes}
use Rattle.rule_schulze.specs.Votes.{votes}
use Rattle.rule_schulze.specs.inner.Tables.{entry}
use Rattle.rule_schulze.proofs.Counting.{closing_agree}
use Rattle.rule_schulze.proofs.count.closing_bytes.Goals as goal

pub returns : goal.returns
returns c = let k = c.args.k in
    c.winners.ensures
    ∙ ap eight_bytes (closing_agree k (entry c.matrix.result)
    (votes k c.args.n c.args.ballots.now) c.matrix.ensures)

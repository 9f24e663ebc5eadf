-- `c_trustees::by_trustees::put_tally` meets its contract: each case of the answer is put as its numbers.
use Rattle.std.proofs.Common.{◌∙◌, ap, ◌∷◌, rules}
use Rattle.jury.specs.Reason.{reason_of}
use Rattle.trustees.specs.declared.run.Tallied.{Tallied}
use Rattle.c_answers.specs.Numbers.{result_numbers}
use Rattle.c_answers.proofs.Answering.{puts_same, map_is}
use Rattle.c_trustees.proofs.Putting.{tally_as}
use Rattle.c_trustees.proofs.by_trustees.put_tally.Goals as goal

pub returns : goal.returns
returns c =
    puts_same (ap (result_numbers reason_of 10) (map_is c.args.outcome c.map.result _
    (λ (x : Tallied). x.size.gates ∷ x.size.conditional ∷ x.closing)
    (λ x u p. search rules) c.map.ensures.cases) ∙ tally_as c.args.outcome) c.put.ensures

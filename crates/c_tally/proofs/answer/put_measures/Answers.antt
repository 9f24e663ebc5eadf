-- `c_tally::answer::put_measures` meets its contract: each case of the answer is put as its numbers.
use Rattle.std.proofs.Common.{◌∙◌, ap, [], ◌∷◌, rules}
use Rattle.jury.specs.Reason.{reason_of}
use Rattle.tally.specs.declared.measure.Measures.{Measures}
use Rattle.c_answers.specs.Numbers.{result_numbers}
use Rattle.c_answers.proofs.Answering.{puts_same, map_is}
use Rattle.c_tally.proofs.Putting.{measures_as}
use Rattle.c_tally.proofs.answer.put_measures.Goals as goal

pub returns : goal.returns
returns c =
    puts_same (ap (result_numbers reason_of 3) (map_is c.args.outcome c.map.result _ (λ (x : Measures). x.gates ∷ x.conditional ∷ x.inputs ∷ [])
    (λ x u p. search rules) c.map.ensures.cases) ∙ measures_as c.args.outcome) c.put.ensures

-- `c_levels::calls::put_depths` meets its contract: each case of the answer is put as its numbers.
use Rattle.std.proofs.Common.{◌∙◌, ap, [], ◌∷◌, rules}
use Rattle.levels.specs.Answer.{level_reason_of}
use Rattle.levels.specs.declared.answer.Depths.{Depths}
use Rattle.c_answers.specs.Numbers.{result_numbers}
use Rattle.c_answers.proofs.Answering.{puts_same, map_is}
use Rattle.c_levels.proofs.Putting.{depths_as}
use Rattle.c_levels.proofs.calls.put_depths.Goals as goal

pub returns : goal.returns
returns c =
    puts_same (ap (result_numbers level_reason_of 3) (map_is c.args.outcome c.map.result _ (λ (x : Depths). x.gates ∷ x.conditional ∷ x.rounds ∷ [])
    (λ x u p. search rules) c.map.ensures.cases) ∙ depths_as c.args.outcome) c.put.ensures

-- `c_answers::size::put_size` meets its contract: each case of the answer is put as its numbers.
use Rattle.std.proofs.Common.{◌∙◌, ap, [], ◌∷◌, rules}
use Rattle.jury.specs.Reason.{reason_of}
use Rattle.gates.specs.declared.list.ListSize.{ListSize}
use Rattle.c_answers.specs.Numbers.{result_numbers}
use Rattle.c_answers.proofs.Answering.{puts_same, map_is}
use Rattle.c_answers.proofs.Answering.{size_as}
use Rattle.c_answers.proofs.size.put_size.Goals as goal

pub returns : goal.returns
returns c =
    puts_same (ap (result_numbers reason_of 2) (map_is c.args.outcome c.map.result _ (λ (x : ListSize). x.gates ∷ x.conditional ∷ [])
    (λ x u p. search rules) c.map.ensures.cases) ∙ size_as c.args.outcome) c.put.ensures

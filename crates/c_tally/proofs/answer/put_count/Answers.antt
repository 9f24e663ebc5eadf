-- `c_tally::answer::put_count` meets its contract: each case of the answer is put as its numbers.
use Rattle.std.proofs.Common.{◌∙◌, ap, ℕ, List, rules}
use Rattle.jury.specs.Reason.{reason_of}
use Rattle.c_answers.specs.Numbers.{result_numbers}
use Rattle.c_answers.proofs.Answering.{puts_same, map_is}
use Rattle.c_tally.proofs.Putting.{count_as}
use Rattle.c_tally.proofs.answer.put_count.Goals as goal

pub returns : goal.returns
returns c =
    puts_same (ap (result_numbers reason_of 8) (map_is c.args.outcome c.map.result _ (λ (closing : List ℕ). closing)
    (λ x u p. search rules) c.map.ensures.cases) ∙ count_as c.args.outcome) c.put.ensures

-- `c_text::calls::put_length` meets its contract: each case of the answer is put as its numbers.
use Rattle.std.proofs.Common.{◌∙◌, ap, ℕ, [], ◌∷◌, rules}
use Rattle.text.specs.Answer.{text_reason_of}
use Rattle.c_answers.specs.Numbers.{result_numbers}
use Rattle.c_answers.proofs.Answering.{puts_same, map_is}
use Rattle.c_text.proofs.Putting.{one_as}
use Rattle.c_text.proofs.calls.put_length.Goals as goal

pub returns : goal.returns
returns c =
    puts_same (ap (result_numbers text_reason_of 1) (map_is c.args.outcome c.map.result _ (λ (n : ℕ). n ∷ [])
    (λ x u p. search rules) c.map.ensures.cases) ∙ one_as c.args.outcome) c.put.ensures

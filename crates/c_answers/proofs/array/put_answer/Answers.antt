-- `c_answers::array::put_answer` meets its contract: reason and place come first, then what is told.
use Rattle.std.proofs.Common.{refl, arith}
use Rattle.c_answers.specs.Numbers.{status_of}
use Rattle.c_answers.proofs.Copying.{all_put}
use Rattle.c_answers.proofs.array.put_answer.Goals as goal

pub returns : goal.returns
unfolding status_of
returns c =
    record {
      returns = refl;
      writes = all_put c.args.reason c.args.place c.args.told.now c.args.answer.now c.copy.new.to _ (omega arith)
          c.copy.ensures (omega arith);
    }

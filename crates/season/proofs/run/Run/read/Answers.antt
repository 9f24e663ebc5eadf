-- `season::run::Run::read` meets its contract: each number is read at the definition's place.
use Rattle.std.proofs.Common.{rules}
use Rattle.season.proofs.RunLaws.{run_is}
use Rattle.season.proofs.run.Run.read.Goals as goal

pub returns : goal.returns
returns c =
    record {
      is = run_is _ _ _ _ _ _ _ (search rules) (search rules) (search rules) (search rules) (search rules) (search rules);
      small = search rules;
    }

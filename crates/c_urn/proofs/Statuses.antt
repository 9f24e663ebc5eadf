-- The status of each call means what `Status` says, by the numbers of its reasons.
-- Assumes nothing.
use Rattle.basics.specs.Lists.{all}
use Rattle.urn.proofs.UrnMemory.{urn_memory}
use Rattle.urn_run.proofs.Theorems.{urn_run_holds}
use Rattle.c_answers.proofs.Statuses.{between, status_means}
use Rattle.c_urn.specs.Status.{StatusMeans}

pub status_tells : StatusMeans
unfolding all between
status_tells =
    record {
      empty = λ k d table answer. status_means tt (urn_memory.empty k d table).number;
      admit = λ k d urn j x answer. status_means tt (urn_memory.admit k d urn j x).number;
      withdraw = λ k d urn j answer. status_means tt (urn_memory.withdraw k d urn j).number;
      run_urn = λ s table urn tape wires board answer.
          status_means tt (urn_run_holds.memory s table urn tape wires board).number;
    }

-- The status of each call means what `Status` says, by the numbers of its reasons.
-- Assumes nothing.
use Rattle.basics.specs.Lists.{all}
use Rattle.tally.specs.Count.{count_outcome}
use Rattle.tally.proofs.Demands.{three_demands}
use Rattle.c_answers.proofs.Statuses.{between, status_means}
use Rattle.c_tally.specs.Status.{StatusMeans}

pub status_tells : StatusMeans
unfolding all between count_outcome
status_tells =
    let memory = three_demands.memory in
    record {
      measure = λ s answer. status_means tt (memory.measure s).number;
      write = λ s table answer. status_means tt (memory.write s table).number;
      test = λ s table answer. status_means tt (memory.test s table).number;
      run = λ s table ballots tape wires board answer. status_means tt (memory.run s table ballots tape wires board).number;
      count = λ s ballots answer. status_means tt (memory.count s ballots).number;
    }

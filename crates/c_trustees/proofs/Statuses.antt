-- The status of each call means what `Status` says, by the numbers of its reasons.
-- Assumes nothing.
use Rattle.basics.specs.Lists.{all}
use Rattle.trustees.proofs.Demands.{number}
use Rattle.trustee_alone.proofs.Memory.{start_number, round_number, finish_number}
use Rattle.c_answers.proofs.Statuses.{between, status_means}
use Rattle.c_trustees.specs.Status.{StatusMeans}

pub status_tells : StatusMeans
unfolding all between
status_tells =
    record {
      trustees = λ c answer. status_means tt (number c);
      start = λ s table t p shares triples wire_parts published answer.
          status_means tt (start_number s table t p shares triples wire_parts published);
      round = λ s table t p round levels triples heard wire_parts published answer.
          status_means tt (round_number s table t p round levels triples heard wire_parts published);
      finish = λ s table wire_parts answer. status_means tt (finish_number s table wire_parts);
    }

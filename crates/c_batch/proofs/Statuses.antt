-- The status of a run for 64 juries means what `Status` says, by the numbers of its reasons.
-- Assumes nothing.
use Rattle.basics.specs.Lists.{all}
use Rattle.batch.proofs.Theorems.{batch_memory}
use Rattle.c_answers.proofs.Statuses.{between, status_means}
use Rattle.c_batch.specs.Status.{StatusMeans}

pub status_tells : StatusMeans
unfolding all between
status_tells = record { run_batch = λ c answer. status_means tt (batch_memory c).number }

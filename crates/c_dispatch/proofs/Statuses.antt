-- The status of the dispatcher means what `Status` says, by the numbers of its reasons.
-- Assumes nothing.
use Rattle.basics.specs.Lists.{all}
use Rattle.dispatch.proofs.Theorems.{dispatching}
use Rattle.c_answers.proofs.Statuses.{between, status_means}
use Rattle.c_dispatch.specs.Status.{StatusMeans}

pub status_tells : StatusMeans
unfolding all between
status_tells = record { dispatch = λ c answer. status_means tt (dispatching.memory c).number }

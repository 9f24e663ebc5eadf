-- The status of the call means what `Status` says, by the numbers of its reasons.
-- Assumes nothing.
use Rattle.basics.specs.Lists.{all}
use Rattle.levels.proofs.Demands.{levels_number}
use Rattle.c_answers.proofs.Statuses.{between, status_means}
use Rattle.c_levels.specs.Status.{StatusMeans}

pub status_tells : StatusMeans
unfolding all between
status_tells = record { levels = λ s table ls answer. status_means tt (levels_number s table ls) }

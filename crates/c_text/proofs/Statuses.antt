-- The status of each call means what `Status` says, by the numbers of its reasons.
-- Assumes nothing.
use Rattle.basics.specs.Lists.{all}
use Rattle.text.proofs.Numbering.{text_number, read_number}
use Rattle.c_answers.proofs.Statuses.{between, status_means}
use Rattle.c_text.specs.Status.{StatusMeans}

pub status_tells : StatusMeans
unfolding all between
status_tells =
    record {
      write = λ s table output answer. status_means tt (text_number s table output);
      read = λ s text output answer. status_means tt (read_number s text output);
    }

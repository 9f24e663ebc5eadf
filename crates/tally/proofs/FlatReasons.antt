-- The reasons of a run are those of the flat lists, by computation.
-- Assumes nothing.
use Rattle.jury.specs.Ballots.{graded_reasons, ranked_reasons, ballot_kind_reasons, ballot_reasons}
use Rattle.tally.specs.Answer.{size_of}
use Rattle.tally.specs.Test.{test_reasons}
use Rattle.tally.specs.Run.{buffer_reasons, run_reasons}
use Rattle.tally.specs.FlatReasons.{graded_run_reasons, ranked_run_reasons, FlatReasons}

pub flat_reasons : FlatReasons
unfolding run_reasons test_reasons ballot_reasons ballot_kind_reasons graded_reasons ranked_reasons buffer_reasons size_of graded_run_reasons ranked_run_reasons
flat_reasons =
    record {
      graded = λ s table ballots tape wires board e. rw e;
      ranked = λ s table ballots tape wires board e. rw e;
    }

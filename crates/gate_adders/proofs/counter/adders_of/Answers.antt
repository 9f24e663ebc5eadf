-- `gate_adders::counter::adders_of` meets its contract: it computes the definition.
-- Assumes nothing.
use mathlib.Core.Path.{refl}
use Rattle.gate_words.specs.Counter.{adders}
use Rattle.gate_adders.proofs.counter.adders_of.Goals as goal

pub returns : goal.returns
unfolding adders
returns c = refl

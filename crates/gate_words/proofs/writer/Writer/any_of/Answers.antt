-- `gate_words::writer::Writer::any_of` meets its contract: it is `chain` at kind 5.
-- Assumes nothing.
use Rattle.gates.proofs.Laws.{operand_counts_lem}
use Rattle.gate_words.proofs.ChoiceSteps.{chain_ready}
use Rattle.gate_words.proofs.writer.Writer.any_of.Goals as goal

pub chain-requires : goal.chain-requires
chain-requires c = chain_ready _ _ _ _ _ operand_counts_lem.5 c.requires

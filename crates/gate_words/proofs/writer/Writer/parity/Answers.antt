-- `gate_words::writer::Writer::parity` meets its contract: it is `chain` at kind 6.
-- Assumes nothing.
use Rattle.gates.proofs.Laws.{operand_counts_lem}
use Rattle.gate_words.proofs.ChoiceSteps.{chain_ready}
use Rattle.gate_words.proofs.writer.Writer.parity.Goals as goal

pub chain-requires : goal.chain-requires
chain-requires c = chain_ready _ _ _ _ _ operand_counts_lem.6 c.requires

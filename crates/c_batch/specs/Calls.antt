-- What a run for 64 juries leaves when C calls it: the entry point's result, if the answer array has room for it.
use Rattle.std.specs.Prelude.{List, ℕ}
use Rattle.c_answers.specs.Numbers.{CallResult, board_call}
use Rattle.batch.specs.Call.{Call}
use Rattle.batch.specs.Run.{batch_result}

abbrev pub batch_call : Call → (answer : List ℕ) → CallResult
batch_call c answer = board_call (batch_result c) c.wires c.board answer

-- What a whole call answers and leaves (request 2.8).
use Rattle.std.proofs.Math.Option.{Option, none, some}
use Rattle.std.specs.Prelude.{List, ℕ, length, replicate}
use Rattle.jury.specs.Reason.{Reason, first_of}
use Rattle.tally.specs.Run.{run_result}
use Rattle.dispatch_rounds.specs.declared.header.JuryHeader.{JuryHeader}
use Rattle.dispatch_rounds.specs.Tables.{Tables, header_shape, through}
use Rattle.dispatch.specs.Call.{Call, juries_in}
use Rattle.dispatch.specs.Reasons.{dispatch_reasons}
use Rattle.dispatch_rounds.specs.Rounds.{eight_of, rounds_for, most_juries}

-- The board that an undivided run leaves on a jury's pieces.
unfoldable pub run_board : JuryHeader → Tables → List ℕ
run_board s p = (run_result (header_shape s) p.lists p.ballots p.tapes p.wires p.boards).board

-- As many zeros as the jury has wires.
abbrev pub zero_wires : JuryHeader → Tables → List ℕ
zero_wires s p = replicate (length p.wires) 0

-- What a call leaves: its reason, if any, each jury's number of rounds, the wire table and the boards.
pub record DispatchResult : Type 0 where
  pub reason : Option Reason
  pub rounds : List ℕ
  pub wires : List ℕ
  pub boards : List ℕ

-- A refusal changes nothing and answers 0 rounds. An accepted call answers each jury's rounds, empties the juries'
-- wires (request 2.13) and leaves the boards of undivided runs. What follows the last jury's piece stays.
unfoldable pub dispatch_result_after : Option Reason → Call → DispatchResult
dispatch_result_after (some r) c =
    record { reason = some r; rounds = replicate most_juries 0; wires = c.tables.wires; boards = c.tables.boards }
dispatch_result_after none c =
    record {
      reason = none;
      rounds = eight_of (λ (s : JuryHeader) (p : Tables). rounds_for s.gates c.gates_per_round) (juries_in c)
          c.tables;
      wires = through zero_wires (λ (t : Tables). t.wires) (juries_in c) c.tables;
      boards = through run_board (λ (t : Tables). t.boards) (juries_in c) c.tables;
    }

-- What a call leaves: the contract of `dispatch` is an equation with this.
unfoldable pub dispatch_result : Call → DispatchResult
dispatch_result c = dispatch_result_after (first_of (dispatch_reasons c)) c

-- Demand 3 on two concrete calls: a jury of the first and one of the second have the same board, although ballots,
-- masks, S and the other juries differ. Each jury has one candidate, two grades and one ballot; the list is a
-- stranger's: one gate that says whether wires 0 and 1 are both 1.
use Rattle.std.specs.Prelude.{◌≡◌, [], ◌∷◌, ◌++◌, ℕ, replicate}
use Rattle.std.proofs.Math.Option.{none}
use Rattle.gates.specs.HidingExample.{one_gate}
use Rattle.dispatch_rounds.specs.declared.header.JuryHeader.{JuryHeader}
use Rattle.dispatch_rounds.specs.Tables.{tables_of}
use Rattle.dispatch.specs.Call.{Call}
use Rattle.dispatch.specs.Result.{dispatch_result}

unfoldable pub one_header : JuryHeader
one_header = record { candidates = 1; grades = 2; ballots = 1; gates = 1 }

-- One jury with the better grade under the mask 0. The wire table and the boards are one byte longer than it needs.
unfoldable pub one_jury : Call
one_jury =
    record {
      count = 1;
      headers = replicate 8 one_header;
      gates_per_round = 1;
      tables = tables_of one_gate (1 ∷ 0 ∷ []) (0 ∷ []) (9 ∷ 9 ∷ 9 ∷ 9 ∷ []) (9 ∷ 9 ∷ 9 ∷ []);
    }

-- The same jury, then a second one with the worse grade under this mask.
unfoldable pub two_juries : (mask : ℕ) → Call
two_juries mask =
    record {
      count = 2;
      headers = replicate 8 one_header;
      gates_per_round = 7;
      tables = tables_of (one_gate ++ one_gate) (1 ∷ 0 ∷ 0 ∷ 1 ∷ []) (0 ∷ mask ∷ []) (9 ∷ 9 ∷ 9 ∷ 7 ∷ 7 ∷ 7 ∷ [])
          (9 ∷ 9 ∷ 7 ∷ 7 ∷ []);
    }

pub record PairOfCalls : Type 0 where
  -- the board 1 0; what comes after it, and after the wires, is unchanged
  pub first_call : dispatch_result one_jury
      ≡ record {
        reason = none;
        rounds = 1 ∷ 0 ∷ 0 ∷ 0 ∷ 0 ∷ 0 ∷ 0 ∷ 0 ∷ [];
        wires = 0 ∷ 0 ∷ 0 ∷ 9 ∷ [];
        boards = 1 ∷ 0 ∷ 9 ∷ [];
      }
  -- the worse grade under the mask 1: the second jury's board is the same
  pub second_call : dispatch_result (two_juries 1)
      ≡ record {
        reason = none;
        rounds = 1 ∷ 1 ∷ 0 ∷ 0 ∷ 0 ∷ 0 ∷ 0 ∷ 0 ∷ [];
        wires = 0 ∷ 0 ∷ 0 ∷ 0 ∷ 0 ∷ 0 ∷ [];
        boards = 1 ∷ 0 ∷ 1 ∷ 0 ∷ [];
      }
  -- under the mask 0, the second jury's board is another one
  pub other_tape : (dispatch_result (two_juries 0)).boards ≡ 1 ∷ 0 ∷ 0 ∷ 0 ∷ []

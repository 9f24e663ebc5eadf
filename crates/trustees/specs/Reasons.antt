-- The reasons to refuse the trustees' call, in the order of their tests (request 2.7).
use Rattle.std.specs.Prelude.{Bool, ◌&&◌, List, [], ◌∷◌, ◌++◌, ℕ, ◌+◌, ◌*◌, eqb, leb, length}
use Rattle.std.proofs.Math.Option.{Option}
use Rattle.gates.specs.Gate.{gates_of}
use Rattle.jury.specs.Reason.{Reason, unless}
use Rattle.jury.specs.Ballots.{ballot_reasons, ballot_reason_numbers}
use Rattle.tally.specs.Answer.{Size, size_of}
use Rattle.tally.specs.Test.{test_reasons, test_reason_numbers}
use Rattle.trustee_gates.specs.Dealing.{dealt_well}
use Rattle.trustees.specs.Call.{PartTables, Call}

-- The most trustees; the fewest are two.
abbrev pub most_trustees : ℕ
most_trustees = 5

-- Whether the four tables have the right lengths for t trustees. Each trustee has a part of each input; u, v and
-- product of each conditional gate; a part of each wire; both masked factors of each conditional gate, and k
-- closing bits.
unfoldable pub tables_fit : (inputs k : ℕ) → Size → (t : ℕ) → PartTables → Bool
tables_fit inputs k size t lent =
    eqb (length lent.dealing.ballot_parts) (t * inputs)
    && eqb (length lent.dealing.dealer_parts) (t * (3 * size.conditional))
    && eqb (length lent.wire_parts) (t * (inputs + size.gates))
    && eqb (length lent.published) (t * (2 * size.conditional + k))

-- The reasons of the number of trustees and of the four tables: 16, 17, 18.
unfoldable pub part_reasons : (k : ℕ) → Size → (ballots : List ℕ) → (t : ℕ) → PartTables → List (Option Reason)
part_reasons k size ballots t lent =
    unless (leb 2 t && leb t most_trustees) 16
    ∷ unless (tables_fit (length ballots) k size t lent) 17
    ∷ unless (dealt_well t size.conditional ballots lent.dealing) 18
    ∷ []

abbrev pub part_reason_numbers : List ℕ
part_reason_numbers = 16 ∷ 17 ∷ 18 ∷ []

-- All reasons: those of the list, of the ballots, and of the parts.
unfoldable pub trustees_reasons : Call → List (Option Reason)
trustees_reasons c =
    test_reasons c.shape c.table
    ++ ballot_reasons c.shape c.ballots
    ++ part_reasons c.shape.candidates (size_of (gates_of c.table)) c.ballots c.trustees c.lent

abbrev pub trustees_reason_numbers : List ℕ
trustees_reason_numbers = test_reason_numbers ++ ballot_reason_numbers ++ part_reason_numbers

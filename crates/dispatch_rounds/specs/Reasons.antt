-- The reasons of juries whose pieces follow each other (request 2.8).
use Rattle.std.proofs.Math.Option.{Option, none, some}
use Rattle.std.specs.Prelude.{List, [], ◌∷◌, ℕ, suc}
use Rattle.jury.specs.Reason.{Reason, reason_at, first_of}
use Rattle.tally.specs.Run.{run_reasons}
use Rattle.dispatch_rounds.specs.declared.header.JuryHeader.{JuryHeader}
use Rattle.dispatch_rounds.specs.Tables.{Tables, header_shape, pieces_of, remaining}

-- The reasons of the jury whose pieces come first in the tables: those of a run on these pieces.
unfoldable pub reasons_of : JuryHeader → Tables → List (Option Reason)
reasons_of s t =
    run_reasons (header_shape s) (pieces_of s t).lists (pieces_of s t).ballots (pieces_of s t).tapes
    (pieces_of s t).wires
    (pieces_of s t).boards

-- A jury's reason keeps its number, and has the jury as its place.
unfoldable pub at_jury : ℕ → Option Reason → Option Reason
at_jury j none = none
at_jury j (some r) = some (reason_at r.number j)

-- The reasons of all juries, in order: all tests of one jury come before those of the next. The first jury here is
-- jury j.
unfoldable pub jury_reasons : ℕ → List JuryHeader → Tables → List (Option Reason)
jury_reasons j [] t = []
jury_reasons j (s ∷ ss) t = at_jury j (first_of (reasons_of s t)) ∷ jury_reasons (suc j) ss (remaining s t)

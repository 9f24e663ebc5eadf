-- The five tables that are lent for all juries of a call, and a jury's pieces in them (request 2.8).
use Rattle.std.specs.Prelude.{cond, List, [], ◌∷◌, ◌++◌, ℕ, ◌+◌, ◌*◌, leb, length, take, drop}
use Rattle.gates.specs.Gate.{gates_of}
use Rattle.gates.specs.Board.{conditional_count}
use Rattle.jury.specs.declared.shape.Shape.{Shape}
use Rattle.jury.specs.Shape.{ballot_bytes}
use Rattle.dispatch_rounds.specs.declared.header.JuryHeader.{JuryHeader}

pub record Tables : Type 0 where
  pub lists : List ℕ
  pub ballots : List ℕ
  pub tapes : List ℕ
  pub wires : List ℕ
  pub boards : List ℕ

abbrev pub tables_of : List ℕ → List ℕ → List ℕ → List ℕ → List ℕ → Tables
tables_of lists ballots tapes wires boards = record {
  lists = lists;
  ballots = ballots;
  tapes = tapes;
  wires = wires;
  boards = boards;
}

abbrev pub header_shape : JuryHeader → Shape
header_shape s = record { candidates = s.candidates; grades = s.grades; ballots = s.ballots }

-- The length of a piece of n elements if m are left: n if they fit, else 0.
unfoldable pub fitting : ℕ → ℕ → ℕ
fitting n m = cond (leb n m) n 0

-- The first n elements if there are that many. A piece that does not fit is empty, and so its length is refused:
-- only the tape of a list without conditional gates may have length 0, and that always fits.
unfoldable pub piece_of : ℕ → List ℕ → List ℕ
piece_of n xs = take (fitting n (length xs)) xs

-- The numbers of the first jury's list: four for each gate.
unfoldable pub list_of : JuryHeader → Tables → List ℕ
list_of s t = piece_of (4 * s.gates) t.lists

-- C of the first jury, counted in its list.
unfoldable pub conditional_in : JuryHeader → Tables → ℕ
conditional_in s t = conditional_count (gates_of (list_of s t))

-- The first jury's pieces: 4G numbers, I ballot bytes, C tape bytes, I + G wires and C + k board bytes.
unfoldable pub pieces_of : JuryHeader → Tables → Tables
pieces_of s t =
    tables_of
    (list_of s t)
    (piece_of (ballot_bytes (header_shape s)) t.ballots)
    (piece_of (conditional_in s t) t.tapes)
    (piece_of (ballot_bytes (header_shape s) + s.gates) t.wires)
    (piece_of (conditional_in s t + s.candidates) t.boards)

-- The rest of the tables after these pieces. The next jury's pieces come first in it.
unfoldable pub remaining : JuryHeader → Tables → Tables
remaining s t =
    tables_of
    (drop (4 * s.gates) t.lists)
    (drop (ballot_bytes (header_shape s)) t.ballots)
    (drop (conditional_in s t) t.tapes)
    (drop (ballot_bytes (header_shape s) + s.gates) t.wires)
    (drop (conditional_in s t + s.candidates) t.boards)

-- A table made of one piece for each jury, in order, and then `rest` of what follows the last one.
unfoldable pub through : (JuryHeader → Tables → List ℕ) → (Tables → List ℕ) → List JuryHeader → Tables → List ℕ
through piece rest [] t = rest t
through piece rest (s ∷ ss) t = piece s (pieces_of s t) ++ through piece rest ss (remaining s t)

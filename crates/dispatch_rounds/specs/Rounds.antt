-- What the wire table and the boards hold after a round (request 2.8). After r rounds of S gates each jury has done r
-- × S of its gates, or all if it has fewer [round].
use Rattle.std.specs.Prelude.{◌≡◌, cond, List, [], ◌∷◌, ◌++◌, ℕ, zero, suc, ◌+◌, ◌-◌, ◌/◌, min, ltb, length, take, drop, replicate}
use Rattle.std.proofs.Math.Option.{none}
use Rattle.gates.specs.Gate.{Gate, gates_of}
use Rattle.gates.specs.Wires.{wires_of}
use Rattle.gates.specs.Board.{conditional_count, shown_bits, board_of}
use Rattle.jury.specs.Reason.{first_of}
use Rattle.dispatch_rounds.specs.declared.header.JuryHeader.{JuryHeader}
use Rattle.dispatch_rounds.specs.Tables.{Tables, conditional_in, pieces_of, remaining, through}
use Rattle.dispatch_rounds.specs.Reasons.{jury_reasons}

-- The most juries that a call may have, and the most gates that it may give a jury in a round.
abbrev pub most_juries : ℕ
most_juries = 8

abbrev pub most_gates_per_round : ℕ
most_gates_per_round = 65536

-- A jury's wire table after its first m gates: the ballots, the wires of these gates, then the old contents. The
-- ballots are put in with the first gate, so before it nothing has changed.
unfoldable pub wires_after : List ℕ → List Gate → ℕ → List ℕ → List ℕ
wires_after ballots gs zero ws = ws
wires_after ballots gs (suc m) ws = wires_of ballots (take (suc m) gs) ++ drop (length ballots + suc m) ws

-- A jury's board after its first m gates: the bits that these gates show, then the old contents. After all gates,
-- it is the whole board with the closing bytes.
unfoldable pub board_after : List ℕ → List Gate → ℕ → List ℕ → ℕ → List ℕ → List ℕ
board_after ballots gs k tape m board =
    cond (ltb m (length gs))
    (shown_bits (wires_of ballots gs) (take m gs) tape ++ drop (conditional_count (take m gs)) board)
    (board_of (wires_of ballots gs) gs k tape)

-- The wire table of a jury with the pieces p, after it was given `given` gates, or all its gates if it has fewer.
unfoldable pub jury_wires : ℕ → JuryHeader → Tables → List ℕ
jury_wires given s p = wires_after p.ballots (gates_of p.lists) (min given s.gates) p.wires

-- Its board then.
unfoldable pub jury_board : ℕ → JuryHeader → Tables → List ℕ
jury_board given s p = board_after p.ballots (gates_of p.lists) s.candidates p.tapes (min given s.gates)
    p.boards

-- How many bits it has shown then.
unfoldable pub jury_shown : ℕ → JuryHeader → Tables → ℕ
jury_shown given s p = conditional_count (take (min given s.gates) (gates_of p.lists))

-- The wire table of all juries.
unfoldable pub wires_given : ℕ → List JuryHeader → Tables → List ℕ
wires_given given = through (jury_wires given) (λ (t : Tables). t.wires)

-- The boards of all juries.
unfoldable pub boards_given : ℕ → List JuryHeader → Tables → List ℕ
boards_given given = through (jury_board given) (λ (t : Tables). t.boards)

-- Eight numbers, one for each jury, 0 past the last.
unfoldable pub eight_of : (JuryHeader → Tables → ℕ) → List JuryHeader → Tables → List ℕ
eight_of number ss = through (λ (s : JuryHeader) (p : Tables). number s p
    ∷ []) (λ (t : Tables). replicate (most_juries - length ss) 0) ss

-- Each board has the length C + k.
abbrev pub BoardsLong : ℕ → List JuryHeader → Tables → Type 0
BoardsLong given [] t = Unit {0}
BoardsLong given (s ∷ ss) t = (length (jury_board given s (pieces_of s t)) ≡ conditional_in s t + s.candidates)
    × BoardsLong given ss (remaining s t)

-- A call between two rounds: t is what was lent, no jury is refused, and each was given `given` gates, or all its
-- gates if it has fewer. `wires` and `boards` are what the two tables hold then. `conditional` and `shown` have
-- each jury's number of conditional gates, and of bits shown so far.
pub record RoundState (given : ℕ) (ss : List JuryHeader) (t : Tables) (conditional wires boards shown : List ℕ) : Type
    0 where
  pub accepted : first_of (jury_reasons 0 ss t) ≡ none
  pub conditional_are : conditional ≡ eight_of (λ (s : JuryHeader) (p : Tables). conditional_count (gates_of p.lists))
      ss t
  pub wires_are : wires ≡ wires_given given ss t
  pub boards_are : boards ≡ boards_given given ss t
  pub shown_are : shown ≡ eight_of (jury_shown given) ss t
  pub long : BoardsLong given ss t

-- How many rounds a jury of G gates takes: G divided by S, rounded up.
unfoldable pub rounds_for : ℕ → ℕ → ℕ
rounds_for gates gates_per_round = (gates + (gates_per_round - 1)) / gates_per_round

-- Demand 3: a board reveals nothing about the ballots except its closing bytes.
use Rattle.std.specs.Prelude.{◌≡◌, List, ℕ, ◌-◌, length, drop}
use Rattle.gates.specs.Gate.{gates_of}
use Rattle.gates.specs.Wires.{wires_of}
use Rattle.gates.specs.Board.{MaskTape}
use Rattle.gates.specs.Hiding.{ExactlyOne, Finished}
use Rattle.jury.specs.declared.shape.Shape.{Shape}
use Rattle.tally.specs.Answer.{accepted, Size, size_of}
use Rattle.tally.specs.Run.{BoardCall, run_result}

-- The closing bytes: the last k bytes of the board.
unfoldable pub closing_bytes : Shape → List ℕ → List ℕ
closing_bytes s board = drop (length board - s.candidates) board

-- Two calls with the same shape and list: `one` on ballots xs with wire table vs and board bs, `other` on ys with
-- ws and ds. `Finished`: each shown bit is its gate's wire a plus its own tape byte modulo 2; then come the closing
-- bytes. The wires are `wires_of`, which depends only on ballots and list: no mask changes a wire.
pub record BoardsHide (s : Shape) (table xs ys : List ℕ) (one other : BoardCall) (vs ws bs ds : List ℕ) : Type 0 where
  -- under every mask tape, the first call answers the list's own G and C, and its board is finished
  pub first_answer : (t : List ℕ) → MaskTape (gates_of table) t
      → (one t vs bs).answer ≡ accepted (size_of (gates_of table))
  pub first_board : (t : List ℕ) → MaskTape (gates_of table) t
      → Finished (wires_of xs (gates_of table)) (gates_of table) s.candidates t (one t vs bs).board
  -- the same for the second call
  pub second_answer : (t : List ℕ) → MaskTape (gates_of table) t
      → (other t ws ds).answer ≡ accepted (size_of (gates_of table))
  pub second_board : (t : List ℕ) → MaskTape (gates_of table) t
      → Finished (wires_of ys (gates_of table)) (gates_of table) s.candidates t (other t ws ds).board
  -- for each first tape there is exactly one second tape that makes the boards equal
  pub same_board : (t : List ℕ) → MaskTape (gates_of table) t
      → ExactlyOne (λ (u : List ℕ). MaskTape (gates_of table) u × ((one t vs bs).board ≡ (other u ws ds).board))
  -- that second tape makes the boards equal whatever the wire tables and boards held before
  pub any_buffers : (t u vs' ws' bs' ds' : List ℕ) → MaskTape (gates_of table) t → MaskTape (gates_of table) u
      → length vs' ≡ length vs → length ws' ≡ length ws → length bs' ≡ length bs → length ds' ≡ length ds
      → (one t vs bs).board ≡ (other u ws ds).board → (one t vs' bs').board ≡ (other u ws' ds').board

-- Demand 3 for one kind of call: `BoardsHide` holds for every two accepted calls that have the same shape, the same
-- list, whoever wrote it, and equal closing bytes. `ballots_of` has the ballots in the call's inputs.
abbrev pub BoardTellsNoMore : {Inputs : Type 0}
    → (call : Shape → List ℕ → Inputs → BoardCall) (ballots_of : Shape → Inputs → List ℕ) → Type 0
BoardTellsNoMore {Inputs} call ballots_of =
    (s : Shape) (table : List ℕ) (x y : Inputs) (t u vs ws bs ds : List ℕ) (first second : Size)
    → (call s table x t vs bs).answer ≡ accepted first
    → (call s table y u ws ds).answer ≡ accepted second
    → closing_bytes s (call s table x t vs bs).board ≡ closing_bytes s (call s table y u ws ds).board
    → (first ≡ size_of (gates_of table)) × (second ≡ size_of (gates_of table))
    × BoardsHide s table (ballots_of s x) (ballots_of s y) (call s table x) (call s table y) vs ws bs ds

-- Demand 3 for two runs of the same list.
abbrev pub RunsHide : (s : Shape) (table xs ys vs ws bs ds : List ℕ) → Type 0
RunsHide s table xs ys = BoardsHide s table xs ys (run_result s table xs) (run_result s table ys)

-- Demand 3 for the entry point [run].
abbrev pub RunTellsNoMore : Type 0
RunTellsNoMore = BoardTellsNoMore run_result (λ s ballots. ballots)

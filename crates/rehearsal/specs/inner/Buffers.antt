-- The program's buffers, and the parts of them that a run is lent.
use Rattle.std.specs.Prelude.{◌≡◌, List, ℕ, ◌≤◌, T, length, replicate}
use Rattle.gates.specs.Gate.{numbers_of}
use Rattle.gates.specs.Board.{conditional_count, Bits}
use Rattle.jury.specs.declared.shape.Shape.{Shape}
use Rattle.jury.specs.Shape.{within_limits}
use Rattle.tally.specs.OwnList.{own_list}
use Rattle.rehearsal.specs.Rehearsal.{shape_of_input}

-- A tape of bits (the program's are zeros), a table for at most 4,000 gates, and a wire table and a board that are
-- long enough for that many gates.
pub record Buffers (table tape wires board : List ℕ) : Type 0 where
  pub table_length : length table ≤ 16000
  pub tape_length : 4000 ≤ length tape
  pub tape_bits : Bits tape
  pub wires_length : 20320 ≤ length wires
  pub board_length : 4008 ≤ length board

-- The same, and s is the shape in the input.
pub record Ready (s : Shape) (input table tape wires board : List ℕ) : Type 0 where
  pub shape_is : s ≡ shape_of_input input
  pub buffers : Buffers table tape wires board

-- What a run of the own list is lent: its numbers, a mask tape, and buffers that are long enough.
pub record Cut (s : Shape) (list : List ℕ) (gates conditional : ℕ) (tape wires board : List ℕ) : Type 0 where
  pub within : T (within_limits s)
  pub list_is : list ≡ numbers_of (own_list s)
  pub gates_are : gates ≡ length (own_list s)
  pub conditional_are : conditional ≡ conditional_count (own_list s)
  pub few : gates ≤ 4000
  pub tape_length : 4000 ≤ length tape
  pub tape_bits : Bits tape
  pub wires_length : 20320 ≤ length wires
  pub board_length : 4008 ≤ length board

-- A new buffer of n zeros.
pub record Zeros (n : ℕ) (buffer : List ℕ) : Type 0 where
  pub long : n ≡ length buffer
  pub zeros : buffer ≡ replicate n 0

-- A new tape of n zeros, which are bits.
pub record ZeroTape (n : ℕ) (tape : List ℕ) : Type 0 where
  pub long : n ≡ length tape
  pub zeros : tape ≡ replicate n 0
  pub bits : Bits tape

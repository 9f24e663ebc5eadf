-- Gates, and the table of numbers that holds a list of them.
use Rattle.std.specs.Prelude.{List, [], ◌∷◌, ℕ, ◌+◌, ◌*◌, get_or}
use Rattle.gates.specs.declared.gate.Gate as program

-- A gate: its kind and its three operands, as the program has it.
abbrev pub Gate : Type 0
Gate = program.Gate

-- The gates of a table, four numbers each. One to three numbers left over at the end make no gate.
unfoldable pub gates_of : List ℕ → List Gate
gates_of [] = []
gates_of (k ∷ []) = []
gates_of (k ∷ a ∷ []) = []
gates_of (k ∷ a ∷ b ∷ []) = []
gates_of (k ∷ a ∷ b ∷ c ∷ t) = record { kind = k; a = a; b = b; c = c } ∷ gates_of t

-- The numbers of a list of gates, as a table holds them.
unfoldable pub numbers_of : List Gate → List ℕ
numbers_of [] = []
numbers_of (g ∷ gs) = g.kind ∷ g.a ∷ g.b ∷ g.c ∷ numbers_of gs

-- Gate g of a table: the four numbers from place 4 g on.
unfoldable pub gate_at : List ℕ → ℕ → Gate
gate_at table g =
    record {
      kind =
          get_or table (4 * g) 0;
      a = get_or table (4 * g + 1) 0;
      b = get_or table (4 * g + 2) 0;
      c = get_or table (4 * g + 3) 0;
    }

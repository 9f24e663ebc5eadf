-- The gates that the blocks are made of, one constructor for each kind. Operands that a kind does not use are 0.
use Rattle.std.specs.Prelude.{ℕ, ◌%◌}
use Rattle.gates.specs.Gate.{Gate}

-- A gate of any kind, from its kind and its three operands.
abbrev pub gate : ℕ → ℕ → ℕ → ℕ → Gate
gate kind a b c = record { kind = kind; a = a; b = b; c = c }

-- The constant bit v modulo 2: kind 0 is 0, and kind 1 is 1.
abbrev pub constant : ℕ → Gate
constant v = gate (v % 2) 0 0 0

abbrev pub copy_of : ℕ → Gate
copy_of a = gate 2 a 0 0

abbrev pub not_of : ℕ → Gate
not_of a = gate 3 a 0 0

abbrev pub and_of : ℕ → ℕ → Gate
and_of a b = gate 4 a b 0

abbrev pub or_of : ℕ → ℕ → Gate
or_of a b = gate 5 a b 0

abbrev pub xor_of : ℕ → ℕ → Gate
xor_of a b = gate 6 a b 0

-- Wire b if wire a is 1, wire c if it is 0.
abbrev pub mux_of : ℕ → ℕ → ℕ → Gate
mux_of a b c = gate 7 a b c

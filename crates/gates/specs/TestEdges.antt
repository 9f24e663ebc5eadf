-- The edges of the test of a list, for two inputs, computed by the definition.
use Rattle.std.specs.Prelude.{◌≡◌, refl, List, [], ◌∷◌, ℕ, Err}
use Rattle.gates.specs.Open.Kind.{operands_of, conditional_of}
use Rattle.gates.specs.Open.Gate.{gates_of}
use Rattle.gates.specs.Open.Board.{conditionals, conditional_count}
use Rattle.gates.specs.Open.Test.{good_operand, good_gate, first_bad, judged, tested}
use Rattle.gates.specs.declared.list.ListFault.TheVariants.{TooFewGates, BadGate}
use Rattle.gates.specs.Open.Test.{accepted}

-- One gate, a copy of this wire.
abbrev pub copy_of : ℕ → List ℕ
copy_of wire = 2 ∷ wire ∷ 0 ∷ 0 ∷ []

-- k - 1 gates for k = 2 outputs.
pub one_gate_too_few : tested 2 2 (copy_of 0) ≡ (Err TooFewGates)
unfolding tested
one_gate_too_few = refl

-- Gate 0 names wire I, its own.
pub names_its_own_wire : tested 2 1 (copy_of 2) ≡ Err (BadGate 0)
unfolding tested judged first_bad good_gate good_operand conditional_count conditionals gates_of conditional_of
    operands_of
names_its_own_wire = refl

-- Gate 0 names wire I - 1, the last input.
pub names_the_last_input : tested 2 1 (copy_of 1) ≡ accepted 1 0
unfolding tested judged first_bad good_gate good_operand conditional_count conditionals gates_of conditional_of
    operands_of
names_the_last_input = refl

-- The tests of a gate list. If a gate is bad, the answer is its place.
use Rattle.std.specs.Prelude.{Bool, true, false, cond, not, ◌&&◌, List, [], ◌∷◌, ℕ, suc, ◌+◌, ◌/◌, ◌%◌, ltb, eqb}
use Rattle.std.specs.Prelude.{length, Option, Some, None, Result, Ok, Err}
use Rattle.gates.specs.Open.Kind.{kind_count, operands_of}
use Rattle.gates.specs.Open.Gate.{Gate, gates_of}
use Rattle.gates.specs.Open.Board.{conditional_count}
use Rattle.gates.specs.declared.list.ListSize.{ListSize}
use Rattle.gates.specs.declared.list.ListFault.{ListFault}
use Rattle.gates.specs.declared.list.ListFault.TheVariants.{PartOfAGate, TooFewGates, TooManyGates, BadGate}

-- The most gates that a list may have: 2 ^ 20.
abbrev pub most_gates : ℕ
most_gates = 1048576

-- An operand that its kind uses must name a wire before `own`, the gate's wire; any other must be 0.
unfoldable pub good_operand : Bool → ℕ → ℕ → Bool
good_operand true own x = ltb x own
good_operand false own x = eqb x 0

-- A gate is good if its kind is one of the eight and its three operands are good.
unfoldable pub good_gate : ℕ → Gate → Bool
good_gate own g =
    ltb g.kind kind_count && good_operand (ltb 0 (operands_of g.kind)) own g.a
    && good_operand (ltb 1 (operands_of g.kind)) own g.b
    && good_operand (ltb 2 (operands_of g.kind)) own g.c

-- The place of the first bad gate. The first gate here is gate g of the whole list, and makes wire inputs + g.
unfoldable pub first_bad : ℕ → ℕ → List Gate → Option ℕ
first_bad inputs g [] = None
first_bad inputs g (x ∷ xs) = cond (good_gate (inputs + g) x) (first_bad inputs (suc g) xs) (Some g)

-- The answer for a good list: its own G and C.
abbrev pub accepted : ℕ → ℕ → Result ListSize ListFault
accepted gates conditional = Ok (record { gates = gates; conditional = conditional })

-- The answer for a list of the right length: its first bad gate if there is one, else G and C.
unfoldable pub judged : Option ℕ → ℕ → ℕ → Result ListSize ListFault
judged (Some g) gates conditional = Err (BadGate g)
judged None gates conditional = accepted gates conditional

-- First the length: whole gates, at least k of them for the k outputs, and not too many. Then the gates.
unfoldable pub tested : ℕ → ℕ → List ℕ → Result ListSize ListFault
tested inputs k table =
    cond (not (eqb (length table % 4) 0)) (Err PartOfAGate)
    (cond (ltb (length table / 4) k) (Err TooFewGates)
    (cond (ltb most_gates (length table / 4)) (Err TooManyGates)
    (judged (first_bad inputs 0 (gates_of table)) (length (gates_of table)) (conditional_count (gates_of table)))))

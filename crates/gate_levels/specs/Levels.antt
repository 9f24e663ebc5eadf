-- Levels: a gate's multiplicative depth. The conditional gates of one level can be opened together.
use Rattle.std.specs.Prelude.{cond, List, [], ◌∷◌, ◌++◌, ℕ, ◌+◌, ◌-◌, max, ltb, get_or}
use Rattle.gates.specs.Kind.{conditional_of}
use Rattle.basics.specs.Lists.{maximum}
use Rattle.gates.specs.Gate.{Gate}

-- The level of wire x, given the levels ls of the gates so far. An input has level 0.
unfoldable pub wire_level : ℕ → List ℕ → ℕ → ℕ
wire_level inputs ls x = cond (ltb x inputs) 0 (get_or ls (x - inputs) 0)

-- The level of a gate: the largest level of its operands, plus one if the gate is conditional. An unused operand is
-- 0, so it names an input and adds nothing.
unfoldable pub gate_level : ℕ → List ℕ → Gate → ℕ
gate_level inputs ls g =
    max (max (wire_level inputs ls g.a) (wire_level inputs ls g.b)) (wire_level inputs ls g.c)
    + cond (conditional_of g.kind) 1 0

-- The levels ls, followed by the level of each gate in turn.
unfoldable pub levels_from : ℕ → List ℕ → List Gate → List ℕ
levels_from inputs ls [] = ls
levels_from inputs ls (g ∷ gs) = levels_from inputs (ls ++ (gate_level inputs ls g ∷ [])) gs

-- The levels of a list's gates, in order.
unfoldable pub levels_of : ℕ → List Gate → List ℕ
levels_of inputs gs = levels_from inputs [] gs

-- The rounds R of a list: its largest level.
unfoldable pub rounds_of : ℕ → List Gate → ℕ
rounds_of inputs gs = maximum (levels_of inputs gs)

-- The values of the wires.
use Rattle.std.specs.Prelude.{List, [], ◌∷◌, ◌++◌, ℕ, ◌-◌, length, get_or, drop}
use Rattle.gates.specs.Open.Kind.{value_of}
use Rattle.gates.specs.Open.Gate.{Gate}

-- The value of wire i, 0 if there is no such wire.
unfoldable pub wire : List ℕ → ℕ → ℕ
wire ws i = get_or ws i 0

-- The value of a gate whose operands name wires of ws.
unfoldable pub value : List ℕ → Gate → ℕ
value ws g = value_of g.kind (wire ws g.a) (wire ws g.b) (wire ws g.c)

-- The wires: first the inputs, then one more for each gate in turn. So gate g has wire inputs + g.
unfoldable pub wires_of : List ℕ → List Gate → List ℕ
wires_of ws [] = ws
wires_of ws (g ∷ gs) = wires_of (ws ++ (value ws g ∷ [])) gs

-- The last k wires are the outputs, which a jury calls its closing bytes.
unfoldable pub outputs_of : ℕ → List ℕ → List ℕ
outputs_of k ws = drop (length ws - k) ws

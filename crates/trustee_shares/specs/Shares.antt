-- Wires shared among trustees, gate by gate (request 2.7). Trustees are counted from 0 here, from 1 in the request.
use Rattle.std.specs.Prelude.{cond, List, [], ◌∷◌, ◌++◌, ℕ, zero, suc, ◌+◌, ◌*◌, ◌%◌, eqb, get_or}
use Rattle.gates.specs.Kind.{conditional_of}
use Rattle.gates.specs.Gate.{Gate}

-- The sum of what t trustees hold.
unfoldable pub sum_of : ℕ → (ℕ → ℕ) → ℕ
sum_of zero f = 0
sum_of (suc t) f = sum_of t f + f t

-- The bit that t trustees share: the sum of their parts modulo 2.
unfoldable pub opened : ℕ → (ℕ → ℕ) → ℕ
opened t f = sum_of t f % 2

-- A trustee's part of wire x.
unfoldable pub part : List ℕ → ℕ → ℕ
part parts x = get_or parts x 0

-- A trustee's bits of the i-th triple: of u, of v and of their product. (u, v, u·v) is a Beaver triple. A trustee's
-- dealer parts are in this order, gate after gate.
unfoldable pub u_of : List ℕ → ℕ → ℕ
u_of triples i = get_or triples (3 * i) 0

unfoldable pub v_of : List ℕ → ℕ → ℕ
v_of triples i = get_or triples (3 * i + 1) 0

unfoldable pub product_of : List ℕ → ℕ → ℕ
product_of triples i = get_or triples (3 * i + 2) 0

-- The factors of a conditional gate: a; and b, or for a choice b plus c modulo 2. A trustee computes its bits of them
-- from its own parts of the wires.
unfoldable pub first_factor : List ℕ → Gate → ℕ
first_factor ws g = part ws g.a

unfoldable pub second_factor : List ℕ → Gate → ℕ
second_factor ws g = cond (eqb g.kind 7) ((part ws g.b + part ws g.c) % 2) (part ws g.b)

-- What a trustee publishes for the i-th conditional gate: its bits of both factors, masked by its bits of u and v.
unfoldable pub masked_first : List ℕ → List ℕ → ℕ → Gate → ℕ
masked_first ws triples i g = (first_factor ws g + u_of triples i) % 2

unfoldable pub masked_second : List ℕ → List ℕ → ℕ → Gate → ℕ
masked_second ws triples i g = (second_factor ws g + v_of triples i) % 2

-- Trustee p's part of a public bit x: x for the first trustee, 0 for the others.
unfoldable pub entered : ℕ → ℕ → ℕ
entered zero x = x
entered (suc p) x = 0

-- Trustee p's bit of the product of both factors. e and f are the opened sums of the masked factors.
unfoldable pub product_part : ℕ → List ℕ → ℕ → ℕ → ℕ → ℕ
product_part p triples i e f = (product_of triples i + e * v_of triples i + f * u_of triples i + entered p (e * f)) % 2

-- Trustee p's bit of a gate's wire, for each kind of gate: from its parts a, b, c of the operands and its bit z of
-- the product.
unfoldable pub part_of_kind : ℕ → ℕ → ℕ → ℕ → ℕ → ℕ → ℕ
part_of_kind p kind a b c z =
    get_or (0 ∷ entered p 1 ∷ a ∷ (a + entered p 1) % 2 ∷ z ∷ (a + b + z) % 2 ∷ (a + b) % 2 ∷ (c + z) % 2 ∷ []) kind 0

-- A list for each trustee: its parts of the wires, or its dealer parts.
abbrev pub Held : Type 0
Held = ℕ → List ℕ

-- e and f of the i-th conditional gate: the sums of what all trustees publish for the first and for the second
-- factor.
unfoldable pub opened_first : ℕ → Held → Held → ℕ → Gate → ℕ
opened_first t triples held i g = opened t (λ p. masked_first (held p) (triples p) i g)

unfoldable pub opened_second : ℕ → Held → Held → ℕ → Gate → ℕ
opened_second t triples held i g = opened t (λ p. masked_second (held p) (triples p) i g)

-- Trustee p's part of the wire of gate g. i conditional gates come before g.
unfoldable pub new_part : ℕ → Held → Held → ℕ → Gate → ℕ → ℕ
new_part t triples held i g p =
    part_of_kind p g.kind (part (held p) g.a) (part (held p) g.b) (part (held p) g.c)
    (product_part p (triples p) i (opened_first t triples held i g) (opened_second t triples held i g))

-- 1 for a conditional gate, else 0.
unfoldable pub mark_of : Gate → ℕ
mark_of g = cond (conditional_of g.kind) 1 0

-- The parts after these gates: each gate adds one part to what each trustee holds. i conditional gates came before.
unfoldable pub parts_of : ℕ → Held → Held → ℕ → List Gate → Held
parts_of t triples held i [] = held
parts_of t triples held i (g ∷ gs) =
    parts_of t triples (λ p. held p ++ (new_part t triples held i g p ∷ [])) (i + mark_of g) gs

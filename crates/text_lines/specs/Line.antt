-- One gate as a line of text.
use Rattle.std.specs.Prelude.{Bool, true, false, cond, List, [], ◌∷◌, ◌++◌, ℕ, ltb, eqb}
use Rattle.std.proofs.Math.Option.{Option, none, some, bind}
use Rattle.gates.specs.Kind.{operands_of, kind_count}
use Rattle.gates.specs.Gate.{Gate}
use Rattle.text_lines.specs.Decimal.{decimal, Taken, taken, number_in}

abbrev pub space : ℕ
space = 32

abbrev pub line_feed : ℕ
line_feed = 10

-- An operand in use is written after a space; an unused one is not written.
unfoldable pub operand_text : Bool → ℕ → List ℕ
operand_text true n = space ∷ decimal n
operand_text false n = []

-- The kind, its operands in use, and a line feed.
unfoldable pub line_of : Gate → List ℕ
line_of g =
    decimal g.kind ++ operand_text (ltb 0 (operands_of g.kind)) g.a
    ++ operand_text (ltb 1 (operands_of g.kind)) g.b
    ++ operand_text (ltb 2 (operands_of g.kind)) g.c
    ++ line_feed ∷ []

-- The kind that was read, if there is such a kind.
unfoldable pub known_kind : Taken ℕ → Option (Taken ℕ)
known_kind k = cond (ltb k.value kind_count) (some k) none

-- The operand at the start of these characters: a space and a number. An operand that is not in use is 0, without
-- characters.
unfoldable pub operand_in : Bool → List ℕ → Option (Taken ℕ)
operand_in true [] = none
operand_in true (c ∷ cs) = cond (eqb c space) (number_in cs) none
operand_in false cs = taken 0 cs

-- The characters after a line feed, if these begin with one.
unfoldable pub end_in : List ℕ → Option (List ℕ)
end_in [] = none
end_in (c ∷ cs) = cond (eqb c line_feed) (some cs) none

-- The gate whose line is at the start of these characters, if there is one.
unfoldable pub gate_in : List ℕ → Option (Taken Gate)
gate_in cs =
    bind (bind (number_in cs) known_kind) λ k.
    bind (operand_in (ltb 0 (operands_of k.value)) k.rest) λ a.
    bind (operand_in (ltb 1 (operands_of k.value)) a.rest) λ b.
    bind (operand_in (ltb 2 (operands_of k.value)) b.rest) λ c.
    bind (end_in c.rest) λ rest.
    taken (record { kind = k.value; a = a.value; b = b.value; c = c.value }) rest

-- The gate, if no characters follow its line.
unfoldable pub only : Gate → List ℕ → Option Gate
only g [] = some g
only g (c ∷ cs) = none

-- The gate of a whole line; none if the line is malformed.
unfoldable pub gate_of : List ℕ → Option Gate
gate_of line = bind (gate_in line) λ g. only g.value g.rest

-- The eight kinds of gates as [kinds] has them, with the marks of request 2.6 [free-xor].
use Rattle.std.specs.Prelude.{Bool, true, false, cond, List, [], ◌∷◌, ℕ, ◌-◌, min, max, ltb, eqb, get_or, Option, Some, None}

-- How many kinds there are: 0 to 7.
abbrev pub kind_count : ℕ
kind_count = 8

-- The columns of operand counts and of conditional marks, as the program's constant arrays have them.
abbrev pub operand_counts : List ℕ
operand_counts = 0 ∷ 0 ∷ 1 ∷ 1 ∷ 2 ∷ 2 ∷ 2 ∷ 3 ∷ []

abbrev pub conditional_marks : List Bool
conditional_marks = false ∷ false ∷ false ∷ false ∷ true ∷ true ∷ false ∷ true ∷ []

-- How many of the operands a, b, c, in this order, a kind uses.
unfoldable pub operands_of : ℕ → ℕ
operands_of kind = get_or operand_counts kind 0

-- Whether a kind is conditional.
unfoldable pub conditional_of : ℕ → Bool
conditional_of kind = get_or conditional_marks kind false

-- Whether two numbers differ, as a bit.
unfoldable pub differ : ℕ → ℕ → ℕ
differ a b = cond (eqb a b) 0 1

-- The multiplexer: if a is 0 it is c, otherwise b.
unfoldable pub chosen : ℕ → ℕ → ℕ → ℕ
chosen a b c = cond (eqb a 0) c b

-- The value of a kind from the values of its operands. Of two bits, the smaller is their conjunction and the larger
-- their disjunction. Any other number is no kind; its value is 0.
unfoldable pub value_of : ℕ → ℕ → ℕ → ℕ → ℕ
value_of kind a b c =
    get_or (0 ∷ 1 ∷ a ∷ (1 - a) ∷ min a b ∷ max a b ∷ differ a b ∷ chosen a b c ∷ []) kind 0

-- The value of a known kind, none for an unknown one.
unfoldable pub applied : ℕ → ℕ → ℕ → ℕ → Option ℕ
applied kind a b c = cond (ltb kind kind_count) (Some (value_of kind a b c)) None

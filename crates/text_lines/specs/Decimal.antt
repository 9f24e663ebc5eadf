-- Numbers in decimal, as characters.
use Rattle.std.specs.Prelude.{Bool, cond, ◌&&◌, List, [], ◌∷◌, ◌++◌, ℕ, zero, suc, ◌+◌, ◌-◌, ◌*◌, ◌/◌, ◌%◌, leb, ltb, eqb}
use Rattle.std.proofs.Math.Option.{Option, none, some}

-- The characters `0` and `9`; the other digits lie between them, in order.
abbrev pub zero_character : ℕ
zero_character = 48

abbrev pub nine_character : ℕ
nine_character = 57

-- The largest number that a gate can hold, in 32 bits.
abbrev pub largest : ℕ
largest = 4294967295

-- n in decimal, if at most this many digits are needed. There are no leading zeros; 0 itself is one digit.
unfoldable pub decimal_within : ℕ → ℕ → List ℕ
decimal_within zero n = []
decimal_within (suc digits) n =
    cond (ltb n 10) ((zero_character + n) ∷ []) (decimal_within digits (n / 10) ++ (zero_character + n % 10) ∷ [])

-- A 32-bit number in decimal: ten digits are enough.
unfoldable pub decimal : ℕ → List ℕ
decimal n = decimal_within 10 n

unfoldable pub is_digit : ℕ → Bool
is_digit c = leb zero_character c && leb c nine_character

-- The value of some first characters, and the characters after them.
pub record Taken (Values : Type 0) : Type 0 where
  pub value : Values
  pub rest : List ℕ

abbrev pub taken : {Values : Type 0} → Values → List ℕ → Option (Taken Values)
taken value rest = some (record { value = value; rest = rest })

-- Reads on in a number: n is the value of the digits before. The result is none if the number is above the largest.
unfoldable pub digits_in : ℕ → List ℕ → Option (Taken ℕ)
digits_in n [] = taken n []
digits_in n (c ∷ cs) =
    cond (is_digit c)
    (cond (leb (10 * n + (c - zero_character)) largest) (digits_in (10 * n + (c - zero_character)) cs) none)
    (taken n (c ∷ cs))

-- The number at the start of these characters, if there is one. If the first digit is 0, the number ends there:
-- only 0 itself begins with 0.
unfoldable pub number_in : List ℕ → Option (Taken ℕ)
number_in [] = none
number_in (c ∷ cs) =
    cond (is_digit c) (cond (eqb c zero_character) (taken 0 cs) (digits_in (c - zero_character) cs)) none

-- Words of 64 bits, in which bit j belongs to jury j.
use Rattle.std.specs.Prelude.{List, [], ◌∷◌, map, ℕ, zero, suc, ◌+◌, ◌*◌, ◌/◌, ◌%◌, ◌^◌, get_or, drop}

-- How many juries a word serves.
abbrev pub lane_count : ℕ
lane_count = 64

-- Bit j of a word, lowest first.
unfoldable pub lane : ℕ → ℕ → ℕ
lane j w = w / 2 ^ j % 2

-- Lane j of a list of words: bit j of each word, which are the bytes of jury j.
unfoldable pub lane_of : ℕ → List ℕ → List ℕ
lane_of j ws = map (lane j) ws

-- The number whose first m bits are `bit 0`, `bit 1` and so on, lowest first.
unfoldable pub packed : ℕ → (ℕ → ℕ) → ℕ
packed zero bit = 0
packed (suc m) bit = bit 0 + 2 * packed m (λ j. bit (suc j))

-- n words whose lane j has the bytes of `lists j`.
unfoldable pub words_of : ℕ → (ℕ → List ℕ) → List ℕ
words_of zero lists = []
words_of (suc n) lists = packed lane_count (λ j. get_or (lists j) 0 0) ∷ words_of n (λ j. drop 1 (lists j))

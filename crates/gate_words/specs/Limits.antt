-- The limit of what the writer counts.
use Rattle.std.specs.Prelude.{ℕ}

-- 2 ^ 31: gates and wires stay below it, so that two of them can be added in 32 bits.
abbrev pub writer_limit : ℕ
writer_limit = 2147483648

-- Words: numbers held by wires. W gives each wire its value, `at` is the first wire, and d is the stride.
use Rattle.std.specs.Prelude.{ℕ, zero, suc, ◌+◌, ◌*◌, ◌<◌}

-- The number of ones among the m wires at, at + d, at + 2 d, and so on.
unfoldable pub ones_at : (ℕ → ℕ) → ℕ → ℕ → ℕ → ℕ
ones_at W at d zero = 0
ones_at W at d (suc m) = W at + ones_at W (at + d) d m

-- The binary number of w wires, lowest digit first.
unfoldable pub number : (ℕ → ℕ) → ℕ → ℕ → ℕ → ℕ
number W at d zero = 0
number W at d (suc w) = W at + 2 * number W (at + d) d w

-- The m wires at, at + d, at + 2 d, and so on are below wire n.
abbrev pub Below : ℕ → ℕ → ℕ → ℕ → Type 0
Below n at d zero = Unit {0}
Below n at d (suc m) = (at < n) × Below n (at + d) d m

-- The width of a number: how many binary digits it has.
use Rattle.std.specs.Prelude.{cond, ℕ, zero, suc, ◌/◌, eqb}

-- 0 has no digit; any other number has one digit more than its half, rounded down. `steps` bounds the halvings.
unfoldable pub width_within : ℕ → ℕ → ℕ
width_within zero m = 0
width_within (suc steps) m = cond (eqb m 0) 0 (suc (width_within steps (m / 2)))

-- m has no more than m digits, so m halvings are enough.
unfoldable pub width_of : ℕ → ℕ
width_of m = width_within m m

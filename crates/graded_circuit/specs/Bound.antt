-- The bound on the number of gates: [bound], with what [judgment-bound] adds.
use Rattle.std.specs.Prelude.{ℕ, ◌+◌, ◌*◌}
use Rattle.jury.specs.declared.shape.Shape.{Shape}
use Rattle.jury.specs.Width.{width_of}

-- For k candidates, d grades and n ballots; w is the width of n.
unfoldable pub bound_of : ℕ → ℕ → ℕ → ℕ → ℕ
bound_of k d n w =
    2 * k * d * n * w + k * d * (30 * w + 20) + k * k * (20 * w + 6 * d + 20) + 2 + k * d * (400 * w + 400)

-- For the graded jury of a shape.
unfoldable pub grading_bound : Shape → ℕ
grading_bound s = bound_of s.candidates s.grades s.ballots (width_of s.ballots)

-- The own list of a shape, graded or ranked, and the bound on its number of gates.
use Rattle.std.specs.Prelude.{cond, List, ℕ}
use Rattle.gates.specs.Gate.{Gate}
use Rattle.jury.specs.declared.shape.Shape.{Shape}
use Rattle.jury.specs.Shape.{is_ranking}
use Rattle.jury.specs.Width.{width_of}
use Rattle.graded_circuit.specs.OwnList.{own_grading}
use Rattle.graded_circuit.specs.Bound.{grading_bound}
use Rattle.ranked_circuit.specs.OwnRanking.{own_ranking, ranking_bound}

-- The list that the core writes for a shape.
unfoldable pub own_list : Shape → List Gate
own_list s = cond (is_ranking s) (own_ranking s.candidates s.ballots) (own_grading s)

-- The bound on G: [bound] with [judgment-bound] for grades, [ranking-bound] for rankings.
unfoldable pub gate_bound : Shape → ℕ
gate_bound s =
    cond (is_ranking s)
    (ranking_bound s.candidates s.ballots (width_of s.ballots))
    (grading_bound s)

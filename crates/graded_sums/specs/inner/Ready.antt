-- What the parts of a candidate's circuit ask for.
use Rattle.std.specs.Prelude.{ℕ, suc, ◌+◌, ◌-◌, ◌*◌, ◌≤◌, ◌<◌}
use Rattle.gate_words.specs.declared.writer.Writer.{Writer}
use Rattle.gate_words.specs.Limits.{writer_limit}
use Rattle.gate_words.specs.Writing.{Room}
use Rattle.graded_circuit.specs.declared.plan.Plan.{Plan}
use Rattle.graded_circuit.specs.Plan.{Planned}
use Rattle.graded_circuit.specs.RunningSums.{word_span, sum_size, worst_size, sum_levels_from}

-- c is a candidate, and g a grade.
pub record GradeOf (p : Plan) (c g : ℕ) : Type 0 where
  pub planned : Planned p
  pub candidate : c < p.candidates
  pub grade : g < p.grades

-- For the bits that the sum of grade g counts, if the rows start at wire n.
pub record RowOf (p : Plan) (n c g : ℕ) : Type 0 where
  pub of : GradeOf p c g
  pub small : n < writer_limit

-- A part of the circuit of candidate c: there is room for its gates, and the inputs come before wire n.
pub record PartReady (w : Writer) (p : Plan) (n c gates : ℕ) : Type 0 where
  pub planned : Planned p
  pub candidate : c < p.candidates
  pub inputs : p.inputs ≤ n
  pub room : Room w gates

-- A part for one grade: the bits that its sum counts are written before wire m.
pub record GradeReady (w : Writer) (p : Plan) (n m c g gates : ℕ) : Type 0 where
  pub part : PartReady w p n c gates
  pub grade : suc g < p.grades
  pub row : n + g * p.ballots ≤ m
  pub there : m ≤ w.wire

-- A part for all grades but the two worst: all rows are written before wire m.
pub record GradesReady (w : Writer) (p : Plan) (n m c gates : ℕ) : Type 0 where
  pub part : PartReady w p n c gates
  pub rows : n + (p.grades - 3) * p.ballots ≤ m
  pub there : m ≤ w.wire

-- For the word of one grade: its levels are written from wire `base` on.
pub record WordReady (w : Writer) (p : Plan) (n base c g : ℕ) : Type 0 where
  pub of : GradeReady w p n base c g (word_span p)
  pub levels : base + sum_size p ≤ w.wire

-- For the words of all grades but the two worst: their levels are written from wire m on.
pub record WordsReady (w : Writer) (p : Plan) (n m c : ℕ) : Type 0 where
  pub of : GradesReady w p n m c ((p.grades - 2) * word_span p)
  pub levels : sum_levels_from p m (p.grades - 2) ≤ w.wire

-- For the word of the second worst grade: the levels of the worst grade's count are written from wire `base` on.
pub record WorstReady (w : Writer) (p : Plan) (base c : ℕ) : Type 0 where
  pub part : PartReady w p base c (word_span p)
  pub levels : base + worst_size p ≤ w.wire

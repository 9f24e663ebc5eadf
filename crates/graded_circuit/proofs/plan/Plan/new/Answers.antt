-- `graded_circuit::plan::Plan::new` meets its contract: within the limits every number fits, and it computes the definition.
-- Assumes nothing.
use mathlib.Core.Path.{◌≡◌, ◌∙◌, ap}
use Prim.Native.Nat.{ℕ, ◌+◌, ◌-◌, ◌/◌, ◌^◌, ◌≤◌}
use native.Mathlib.Nat.{pow-le-pow_right}
use native.Mathlib.Omega.{arith}
use lib.Dec.{T}
use Rattle.jury.specs.declared.shape.Shape.{Shape}
use Rattle.jury.specs.Shape.{graded_limits, ballot_bytes}
use Rattle.jury.specs.Width.{width_of}
use Rattle.jury.proofs.Limits.{within_T, graded_T, bytes_are, bytes_bound}
use Rattle.jury.proofs.WidthLaws.{width_half, width_most}
use Rattle.graded_circuit.specs.declared.plan.Plan.{Plan}
use Rattle.graded_circuit.specs.Plan.{plan_of}
use Rattle.graded_circuit.proofs.Planning.{half_most, rest_most, high_width}
use Rattle.graded_circuit.proofs.plan.Plan.new.Goals as goal
use Rattle.graded_circuit.proofs.plan.Plan.new.Goals.{After-ballot_bytes}

-- the width of the number of ballots is 1 to 8
widths : (s : Shape) → T (graded_limits s) → (1 ≤ width_of s.ballots) × (width_of s.ballots ≤ 8)
widths s t = let w = within_T s t in
    (omega (arith, width_half s.ballots w.n_least), width_most s.ballots w.n_most)

halves : (s : Shape) → T (graded_limits s) → ((s.ballots + 1) / 2 ≤ 2 ^ (width_of s.ballots - 1))
    × (1 + s.ballots / 2 ≤ 2 ^ (width_of s.ballots - 1))
halves s t =
    let high = high_width s.ballots (within_T s t).n_least in
    (half_most s.ballots (width_of s.ballots - 1) high, rest_most s.ballots (width_of s.ballots - 1) high)

pub overflow_cast-ballots : goal.overflow_cast-ballots
overflow_cast-ballots c = omega (arith, (within_T c.args.shape c.requires).n_most)

pub overflow_cast-digits : goal.overflow_cast-digits
overflow_cast-digits c = omega (arith, c.width.ensures, widths c.args.shape c.requires)

pub overflow_sub-digits : goal.overflow_sub-digits
overflow_sub-digits c = omega (arith, c.width.ensures, widths c.args.shape c.requires)

pub pow-most-requires : goal.pow-most-requires
pow-most-requires c =
    omega (
      arith,
      pow-le-pow_right {n = 2} (omega arith) {i = c.width.result - 1} {j = 7}
          (omega (arith, c.width.ensures, widths c.args.shape c.requires)),
    )

pub overflow_cast-result : goal.overflow_cast-result
overflow_cast-result c = omega (arith, (within_T c.args.shape c.requires).k_most)

pub overflow_cast-result-2 : goal.overflow_cast-result-2
overflow_cast-result-2 c = omega (arith, (within_T c.args.shape c.requires).d_most)

pub ballot_bytes-requires : goal.ballot_bytes-requires
ballot_bytes-requires c = graded_T c.args.shape c.requires

pub overflow_cast-result-3 : goal.overflow_cast-result-3
overflow_cast-result-3 c = omega (
  arith,
  c.ballot_bytes.ensures,
  bytes_are c.args.shape (within_T c.args.shape c.requires),
  bytes_bound c.args.shape (within_T c.args.shape c.requires),
)

pub overflow_add-result : goal.overflow_add-result
overflow_add-result c = omega (arith, (within_T c.args.shape c.requires).n_most)

-- 2 to the number of low digits
power_is : (c : After-ballot_bytes) → c.pow-most.result
    ≡ 2 ^ (width_of c.args.shape.ballots - 1)
power_is c = c.pow-most.ensures ∙ ap (λ (k : ℕ). 2 ^ (k - 1)) c.width.ensures

pub overflow_sub-result : goal.overflow_sub-result
overflow_sub-result c =
    let e = power_is (goal.at.overflow_sub-result c).After-ballot_bytes in
    omega (arith, halves c.args.shape c.requires)

pub overflow_sub-result-3 : goal.overflow_sub-result-3
overflow_sub-result-3 c =
    let e = power_is (goal.at.overflow_sub-result-3 c).After-ballot_bytes in
    omega (arith, halves c.args.shape c.requires)

-- the width of the largest grade's number is 1 to 8
grade_widths : (s : Shape) → T (graded_limits s) → (1 ≤ width_of (s.grades - 1)) × (width_of (s.grades - 1) ≤ 8)
grade_widths s t =
    let w = within_T s t in
    (omega (arith, width_half (s.grades - 1) (omega (arith, w.d_least))), width_most (s.grades - 1) (omega (arith, w.d_most)))

pub overflow_sub-shape : goal.overflow_sub-shape
overflow_sub-shape c = omega (arith, (within_T c.args.shape c.requires).d_least)

pub overflow_cast-result-4 : goal.overflow_cast-result-4
overflow_cast-result-4 c = omega (arith, c.width-2.ensures, grade_widths c.args.shape c.requires)

pub overflow_sub-result-4 : goal.overflow_sub-result-4
overflow_sub-result-4 c = omega (arith, c.width-2.ensures, grade_widths c.args.shape c.requires)

planned : Shape → ℕ → ℕ → ℕ → ℕ → Plan
planned s inputs width most graded =
    record {
      candidates = s.candidates;
      grades = s.grades;
      ballots = s.ballots;
      inputs = inputs;
      digits = width - 1;
      offset = most - (s.ballots + 1) / 2;
      worst = most - 1 - s.ballots / 2;
      places = graded - 1;
    }

same_plan : (s : Shape) (inputs width most graded : ℕ) → inputs ≡ ballot_bytes s → width ≡ width_of s.ballots
    → most ≡ 2 ^ (width_of s.ballots - 1)
    → graded ≡ width_of (s.grades - 1) → planned s inputs width most graded ≡ plan_of s
unfolding planned plan_of
same_plan s inputs width most graded e₁ e₂ e₃ e₄ =
    ap (λ (k : ℕ). planned s k width most graded) e₁
    ∙ ap (λ (k : ℕ). planned s (ballot_bytes s) k most graded) e₂
    ∙ ap (λ (k : ℕ). planned s (ballot_bytes s) (width_of s.ballots) k graded) e₃
    ∙ ap (λ (k : ℕ). planned s (ballot_bytes s) (width_of s.ballots) (2 ^ (width_of s.ballots - 1)) k) e₄

pub returns : goal.returns
unfolding planned
returns c = same_plan c.args.shape c.ballot_bytes.result c.width.result
    c.pow-most.result c.width-2.result
    c.ballot_bytes.ensures c.width.ensures (power_is (goal.at.returns c).After-ballot_bytes) c.width-2.ensures

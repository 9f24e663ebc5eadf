-- What follows for a plan: its bits are inputs, and both counts have enough digits.
-- Assumes nothing.
use Prim.Native.Nat.{ℕ, suc, ◌≤◌, ◌<◌}
use native.Mathlib.Nat.{pow-succ', mul_assoc, suc-mul, mul-le-mul_right}
use native.Mathlib.Omega.{arith}
use Rattle.gate_words.specs.Word.{Below}
use Rattle.gate_words.specs.Counter.{Countable}
use Rattle.gate_words.proofs.CounterLaws.{countable}
use Rattle.graded_circuit.specs.declared.plan.Plan.{Plan}
use Rattle.graded_circuit.specs.Plan.{Planned, bits_at, ballot_stride}
use Rattle.gate_words.proofs.CounterSteps.{below_stride}

module _ (p : Plan) (f : Planned p) where
  pub row_below : (c g : ℕ) → c < p.candidates → g < p.grades → bits_at p c g < ballot_stride p
  row_below c g hc hg = omega (arith, mul-le-mul_right {m = suc c} {n = p.candidates} p.grades (omega arith), suc-mul c p.grades)

  -- a candidate's bits of a grade are inputs
  pub bits_below : (n c g : ℕ) → p.inputs ≤ n → c < p.candidates → g < p.grades → Below n (bits_at p c g) (ballot_stride p) p.ballots
  bits_below n c g h hc hg =
      below_stride n (bits_at p c g) (ballot_stride p) p.ballots
      (omega (arith, row_below c g hc hg, f.inputs_is, mul_assoc p.ballots p.candidates p.grades))

  pub first_countable : Countable p.ballots p.offset p.digits
  first_countable =
      let e = pow-succ' 2 p.digits in
      countable p.ballots p.offset p.digits (omega (arith, f.offset_is, f.n_least))
      (omega (arith, f.offset_is, f.high)) (omega (arith, f.offset_is, f.n_least))

  pub worst_countable : Countable p.ballots p.worst p.digits
  worst_countable =
      let e = pow-succ' 2 p.digits in
      countable p.ballots p.worst p.digits (omega (arith, f.worst_is, f.n_least))
      (omega (arith, f.worst_is, f.high)) (omega (arith, f.worst_is))

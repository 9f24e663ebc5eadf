-- It measures the own list of a shape within its limits.
use mathlib.Core.Path.{◌≡◌, ◌∙◌, sym, ap}
use mathlib.Core.Bool.{Bool, true, false}
use mathlib.Core.List.{[], ◌∷◌}
use Prim.Native.Nat.{ℕ}
use lib.ListN.{length}
use Rattle.gates.specs.Board.{conditional_count}
use Rattle.jury.specs.declared.shape.Shape.{Shape}
use Rattle.jury.specs.Shape.{within_limits, ballot_bytes}
use Rattle.jury.specs.Reason.{reason_of, reason_at, unless, first_of}
use Rattle.basics.proofs.Flags.{true_T}
use Rattle.tally.specs.OwnList.{own_list}
use Rattle.tally.specs.Answer.{refused, accepted, outcome}
use Rattle.tally.specs.Measure.{measure_reasons, Measures, measures_of, measure_outcome, measured_by}
use Rattle.tally.proofs.measure.measure.Goals as goal

outside : (s : Shape) → within_limits s ≡ false → measure_outcome s ≡ refused (reason_at 1 0)
unfolding measure_outcome measure_reasons outcome unless first_of
outside s e = ap (λ (b : Bool). outcome (first_of (unless b 1 ∷ [])) (measures_of s)) e

inside : (s : Shape) → within_limits s ≡ true → measure_outcome s ≡ accepted (measures_of s)
unfolding measure_outcome measure_reasons outcome unless first_of
inside s e = ap (λ (b : Bool). outcome (first_of (unless b 1 ∷ [])) (measures_of s)) e

-- G and C of the own list, and I
measured : (s : Shape) (gates conditional inputs : ℕ) → gates ≡ length (own_list s) → conditional
    ≡ conditional_count (own_list s) → inputs ≡ ballot_bytes s
    → ◌≡◌ {A = Measures} (record { gates = gates; conditional = conditional; inputs = inputs }) (measures_of s)
unfolding measures_of
measured s gates conditional inputs g c i = rw (g, c, i)

pub returns-then-not-is_within_limits : goal.returns-then-not-is_within_limits
unfolding measured_by reason_of
returns-then-not-is_within_limits c = sym (outside c.args.shape
    (sym c.is_within_limits.ensures ∙ c.if-not-is_within_limits.true))

pub measure-end-requires : goal.measure-end-requires
measure-end-requires c = true_T (within_limits c.args.shape) (sym c.is_within_limits.ensures ∙ c.if-not-is_within_limits.false)

pub ballot_bytes-requires : goal.ballot_bytes-requires
ballot_bytes-requires c = true_T (within_limits c.args.shape) (sym c.is_within_limits.ensures ∙ c.if-not-is_within_limits.false)

pub returns : goal.returns
unfolding measured_by
returns c = let s = c.args.shape in
    ap accepted (measured s c.measure-end.result.gate c.measure-end.result.conditional
    c.ballot_bytes.result c.measure-end.ensures.gates c.measure-end.ensures.conditionals
    c.ballot_bytes.ensures) ∙ sym (inside s (sym c.is_within_limits.ensures ∙ c.if-not-is_within_limits.false))

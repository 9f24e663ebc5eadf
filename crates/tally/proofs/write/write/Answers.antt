-- The writer of the shape's kind writes the own list if the table has room for it.
use mathlib.Core.Path.{◌≡◌, ◌∙◌, sym, ap}
use Prim.Native.Nat.{ℕ, ◌+◌, ◌*◌, ◌≤◌}
use native.Mathlib.Omega.{arith}
use lib.Dec.{T}
use lib.ListN.{length}
use borrow.Author.Tests.{le-leb, lt-leb}
use Rattle.gates.specs.Board.{conditional_count}
use Rattle.jury.specs.declared.shape.Shape.{Shape}
use Rattle.jury.specs.Shape.{within_limits}
use Rattle.jury.specs.Reason.{reason_of, reason_at}
use Rattle.basics.proofs.Flags.{true_T, T_true}
use Rattle.tally.specs.OwnList.{own_list}
use Rattle.tally.specs.Answer.{accepted, outcome_of, size_of}
use Rattle.tally.specs.Write.{OwnListHolds}
use Rattle.tally.proofs.OwnList.{own_list_holds}
use Rattle.tally.proofs.Writing.{write_refused, outside, too_short, fits, write_accepted, stored}
use Rattle.tally.proofs.write.write.Goals as goal
use Rattle.tally.proofs.write.write.Goals.{Else-table-gates}

holds : (s : Shape) → T (within_limits s) → OwnListHolds s
holds s t = own_list_holds s (T_true (within_limits s) t)

-- the writer's numbers are the list's size
sized : (s : Shape) (gates conditional : ℕ) → gates ≡ 0 + length (own_list s) → conditional ≡ 0 + conditional_count (own_list s)
    → accepted (record { gates = gates; conditional = conditional }) ≡ accepted (size_of (own_list s))
unfolding size_of
sized s gates conditional e f =
    let g : gates ≡ length (own_list s) = omega arith in
    let c : conditional ≡ conditional_count (own_list s) = omega arith in
    ap (λ (n : ℕ). accepted (record { gates = n; conditional = conditional })) g
    ∙ ap (λ (n : ℕ). accepted (record { gates = length (own_list s); conditional = n })) c

pub returns-then-not-is_within_limits : goal.returns-then-not-is_within_limits
unfolding outcome_of reason_of
returns-then-not-is_within_limits c = let a = c.args in
    let r = write_refused a.shape a.table.now (reason_at 1 0)
    (outside a.shape a.table.now
    (sym c.is_within_limits.ensures ∙ c.if-not-is_within_limits.true)) in
    record { answers = sym r.0; leaves = sym r.1; own_list = holds a.shape }

pub gates-requires : goal.gates-requires
gates-requires c = true_T (within_limits c.args.shape) (sym c.is_within_limits.ensures ∙ c.if-not-is_within_limits.false)

pub returns-then-table-gates : goal.returns-then-table-gates
unfolding outcome_of reason_of
returns-then-table-gates c = let a = c.args in
    let short = lt-leb (4 * length (own_list a.shape)) (length a.table.now)
    (omega (arith, c.if-table-gates.true, c.gates.ensures)) in
    let r = write_refused a.shape a.table.now (reason_at 2 0)
    (too_short a.shape a.table.now (sym c.is_within_limits.ensures ∙ c.if-not-is_within_limits.false) short) in
    record { answers = sym r.0; leaves = sym r.1; own_list = holds a.shape }

-- the table has room
room : (c : Else-table-gates) → let a = c.args in 4 * length (own_list a.shape) ≤ length a.table.now
room c =
    let a = c.args in
    omega (arith, c.if-table-gates.false, c.gates.ensures)

pub own_list-end-requires : goal.own_list-end-requires
own_list-end-requires c = true_T (within_limits c.args.shape) (sym c.is_within_limits.ensures ∙ c.if-not-is_within_limits.false)

pub returns : goal.returns
unfolding outcome_of
returns c = let a = c.args in
    let h = room (goal.at.returns c).Else-table-gates in
    let r = write_accepted a.shape a.table.now
    (fits a.shape a.table.now (sym c.is_within_limits.ensures ∙ c.if-not-is_within_limits.false)
    (le-leb (4 * length (own_list a.shape)) (length a.table.now) h)) in
    let w = c.own_list-end in
    record {
      answers = sized a.shape w.result.gate w.result.conditional w.ensures.gates w.ensures.conditionals ∙ sym r.0;
      leaves = w.ensures.numbers (omega (arith, h)) ∙ stored a.shape a.table.now h ∙ sym r.1;
      own_list = holds a.shape;
    }

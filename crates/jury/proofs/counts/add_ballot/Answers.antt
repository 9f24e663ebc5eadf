-- `jury::counts::add_ballot` meets its contract: the rows below c have the ballot's rows added, the others are
-- unchanged.
-- Assumes nothing.
use mathlib.Core.Path.{◌≡◌, ◌∙◌, sym, ap}
use mathlib.Core.List.{List, []}
use Prim.Native.Nat.{ℕ, ◌+◌, ◌-◌, ◌*◌, ◌<◌}
use native.Mathlib.Nat.{add-sub_cancel_left}
use native.Mathlib.Numerals.{add-one}
use native.Mathlib.Omega.{arith}
use lib.ListN.{get_or, set, take, drop, length-take}
use Rattle.basics.specs.Lists.{tabulate}
use Rattle.jury.specs.Shape.{most_candidates}
use Rattle.jury.specs.inner.Counts.{plus_row, plus_ballot}
use Rattle.basics.proofs.Tabulate.{up_to, tabulate_get_d, fill_start, fill_at, fill_step}
use Rattle.jury.proofs.counts.add_ballot.Invariants.{old, new}
use Rattle.jury.proofs.counts.add_ballot.Goals as goal

pub loop-c-init : goal.loop-c-init
loop-c-init c =
    let counts = c.args.counts.now in
    sym (fill_start most_candidates (new c.args.shape.grades counts c.args.ballot.now) (old counts)
    ∙ tabulate_get_d counts most_candidates [] c.requires.array.rows)

-- the row of counts that a turn finds is still the one that was lent
found : (d : ℕ) (counts now : List (List ℕ)) (ballot : List ℕ) (c : ℕ) → c < most_candidates
    → now ≡ tabulate most_candidates (up_to c (new d counts ballot) (old counts)) → get_or now c [] ≡ get_or counts c []
found d counts now ballot c h s =
    ap (λ (m : List (List ℕ)). get_or m c []) s ∙ fill_at most_candidates c (new d counts ballot) (old counts) [] h

pub add_row-requires : goal.add_row-requires
add_row-requires c =
    let counts = c.args.counts.now in
    let d = c.args.shape.grades in
    let i = c.loop-c.c in
    let kept = found d counts c.loop-c.counts c.args.ballot.now i (omega arith) c.loop-c.invariant in
    record {
      seven = rw kept (c.requires.array.columns i (omega arith));
      short = omega (arith, length-take (i * d + d - i * d) (drop (i * d) c.args.ballot.now));
      small = λ g. rw kept (c.requires.array.small i g);
    }

pub loop-c-preserved : goal.loop-c-preserved
loop-c-preserved c =
    let counts = c.args.counts.now in
    let ballot = c.args.ballot.now in
    let d = c.args.shape.grades in
    let i = c.loop-c.c in
    let made =
    c.add_row.ensures
    ∙ ap (λ (r : List ℕ). plus_row r (take (i * d + d - i * d) (drop (i * d) ballot)))
    (found d counts c.loop-c.counts ballot i (omega arith) c.loop-c.invariant)
    ∙ ap (λ (n : ℕ). plus_row (get_or counts i []) (take n (drop (i * d) ballot))) (add-sub_cancel_left (i * d) d) in
    ap (λ (r : List ℕ). set c.loop-c.counts i r) made
    ∙ ap (λ (m : List (List ℕ)). set m i (new d counts ballot i)) c.loop-c.invariant
    ∙ fill_step most_candidates i (new d counts ballot) (old counts) (omega arith)
    ∙ ap (λ (j : ℕ). tabulate most_candidates (up_to j (new d counts ballot) (old counts))) (sym (add-one i))

pub returns : goal.returns
unfolding plus_ballot up_to
returns c =
    c.loop-c.invariant
    ∙ ap (λ (i : ℕ). tabulate most_candidates (up_to i (new c.args.shape.grades c.args.counts.now c.args.ballot.now) (old c.args.counts.now)))
    {x = c.loop-c.c} {y = c.args.shape.candidates} (omega arith)

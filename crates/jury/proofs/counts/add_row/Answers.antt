-- `jury::counts::add_row` meets its contract.
-- Assumes nothing.
use mathlib.Core.Path.{◌≡◌, ◌∙◌, sym, ap}
use mathlib.Core.List.{List}
use Prim.Native.Nat.{ℕ, ◌+◌, ◌<◌}
use native.Mathlib.Numerals.{add-one}
use native.Mathlib.Omega.{arith}
use lib.ListN.{get_or, set, get_or-eq_default}
use Rattle.basics.specs.Lists.{tabulate}
use Rattle.jury.specs.inner.Counts.{plus_row}
use Rattle.basics.proofs.Tabulate.{up_to, tabulate_get_d, fill_start, fill_at, fill_step, fill_end}
use Rattle.jury.proofs.counts.add_row.Goals as goal

abbrev new : List ℕ → List ℕ → ℕ → ℕ
new counts row g = get_or counts g 0 + get_or row g 0

abbrev old : List ℕ → ℕ → ℕ
old counts g = get_or counts g 0

-- the count that a turn finds is still the one that was lent
found : (counts now row : List ℕ) (g : ℕ) → now ≡ tabulate 7 (up_to g (new counts row) (old counts)) → g < 7
    → get_or now g 0 ≡ get_or counts g 0
found counts now row g e h = ap (λ (m : List ℕ). get_or m g 0) e ∙ fill_at 7 g (new counts row) (old counts) 0 h

pub loop-g-init : goal.loop-g-init
loop-g-init c =
    sym (fill_start 7 (new c.args.counts.now c.args.row.now) (old c.args.counts.now) ∙ tabulate_get_d c.args.counts.now 7 0 c.requires.seven)

pub overflow_add-counts : goal.overflow_add-counts
overflow_add-counts c =
    let g = c.loop-g.g in
    omega (arith, found c.args.counts.now c.loop-g.counts c.args.row.now g c.loop-g.invariant (omega arith), c.requires.small g)

pub loop-g-preserved : goal.loop-g-preserved
loop-g-preserved c =
    let counts = c.args.counts.now in
    let row = c.args.row.now in
    let g = c.loop-g.g in
    ap (λ (x : ℕ). set c.loop-g.counts g (x + c.from.result)) (found counts c.loop-g.counts row g c.loop-g.invariant (omega arith))
    ∙ ap (λ (x : ℕ). set c.loop-g.counts g (get_or counts g 0 + x)) c.from.ensures
    ∙ ap (λ (m : List ℕ). set m g (new counts row g)) c.loop-g.invariant
    ∙ fill_step 7 g (new counts row) (old counts) (omega arith)
    ∙ ap (λ (j : ℕ). tabulate 7 (up_to j (new counts row) (old counts))) (sym (add-one g))

pub returns : goal.returns
unfolding plus_row
returns c =
    let counts = c.args.counts.now in
    let row = c.args.row.now in
    c.loop-g.invariant
    ∙ fill_end 7 c.loop-g.g (new counts row) (old counts) (λ j l m. omega (arith, get_or-eq_default row 0 {n = j} (omega arith)))

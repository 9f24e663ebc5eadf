-- `text::scan::line_count` meets its contract: it counts the line feeds, and looks at the last character.
-- Assumes nothing.
use mathlib.Core.Path.{◌≡◌, ◌∙◌, sym, ap}
use mathlib.Core.List.{List}
use Prim.Native.Nat.{ℕ, ◌≤◌}
use native.Mathlib.Omega.{arith}
use lib.ListN.{length, take}
use Rattle.std.proofs.Common.{rules}
use Rattle.std.proofs.lemmas.List.{take_all}
use Rattle.std.specs.Prelude.{eqb, count_by}
use Rattle.text.proofs.Scanning.{feeds, feeds_counted, no_lines, closed_lines, open_lines}
use Rattle.text.proofs.scan.line_count.Goals as goal

-- at the end all feeds are counted
counted : (text : List ℕ) (n i : ℕ) → length text ≤ i → n ≡ count_by (λ x. eqb x 10) (take i text) → n ≡ feeds text
counted text n i h e = e ∙ ap (count_by (λ x. eqb x 10)) (take_all i text h) ∙ feeds_counted text

pub returns-then-is_empty : goal.returns-then-is_empty
returns-then-is_empty c = sym (no_lines c.args.text.now (search rules))

pub returns-then-text-eq-LINE_FEED : goal.returns-then-text-eq-LINE_FEED
returns-then-text-eq-LINE_FEED c =
    let l = c.loop-c in
    counted c.args.text.now l.feeds l.c-index c.loop-c-test.false l.invariant.1
    ∙ sym (closed_lines c.args.text.now (search rules) c.if-text-eq-LINE_FEED.true)

pub returns-else-text-eq-LINE_FEED : goal.returns-else-text-eq-LINE_FEED
returns-else-text-eq-LINE_FEED c =
    let l = c.loop-c in
    let e = counted c.args.text.now l.feeds l.c-index c.loop-c-test.false l.invariant.1 in
    omega (arith, open_lines c.args.text.now (search rules) c.if-text-eq-LINE_FEED.false)

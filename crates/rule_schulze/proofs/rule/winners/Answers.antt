-- `rule_schulze::rule::winners` meets its contract: below i the closing bytes are the table's, and by the paths
-- theorem the table is the rule's.
-- Assumes nothing.
use mathlib.Core.Path.{◌∙◌, sym, ap}
use mathlib.Core.Bool.{Bool, cond}
use mathlib.Core.List.{List}
use Prim.Native.Nat.{ℕ}
use native.Mathlib.Omega.{arith}
use native.Mathlib.Numerals.{add-one}
use lib.ListN.{set}
use Rattle.basics.proofs.Flags.{bit_is}
use Rattle.jury.specs.Shape.{most_candidates}
use Rattle.basics.specs.Lists.{tabulate}
use Rattle.jury.specs.ClosingBytes.{eight_bytes}
use Rattle.basics.proofs.Tabulate.{fill_start, fill_step, tabulate_cong}
use Rattle.jury.proofs.Rows.{eight_table}
use Rattle.rule_schulze.specs.Schulze as spec
use Rattle.rule_schulze.specs.inner.Tables.{entry}
use Rattle.rule_schulze.proofs.Counting.{table_wins}
use Rattle.rule_schulze.proofs.rule.winners.Invariants.{winner, filled}
use Rattle.rule_schulze.proofs.rule.winners.Goals as goal

pub loop-i-init : goal.loop-i-init
unfolding tabulate
loop-i-init c = sym (fill_start most_candidates (winner c.strongest_paths-paths.result c.args.k) (λ j. 0))

pub loop-i-preserved : goal.loop-i-preserved
loop-i-preserved c = let k = c.args.k in
    let paths = c.strongest_paths-paths.result in
    let i = c.loop-i.i in
    ap (λ (m : List ℕ). set m i c.from.result) c.loop-i.invariant
    ∙ ap (set (filled paths k i) i)
    (c.from.ensures ∙ bit_is c.wins.result ∙ ap (λ (t : Bool). cond {A = ℕ} t 1 0) c.wins.ensures)
    ∙ fill_step most_candidates i (winner paths k) (λ j. 0) (omega arith)
    ∙ ap (filled paths k) (sym (add-one i))

pub returns : goal.returns
unfolding spec.schulze_of
returns c = let k = c.args.k in
    let v = entry c.args.votes in
    let paths = c.strongest_paths-paths.result in
    c.loop-i.invariant
    ∙ ap (filled paths k) {x = c.loop-i.i} {y = k} (omega arith)
    ∙ eight_table k (winner paths k)
    ∙ ap eight_bytes
    (tabulate_cong k (winner paths k) (λ i. cond (spec.wins v k i) 1 0)
    (λ i h.
    ap (λ (t : Bool). cond {A = ℕ} t 1 0)
    (table_wins k v c.links.result paths c.links.ensures c.strongest_paths-paths.ensures i h)))

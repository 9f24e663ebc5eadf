-- `trustees::run::open_closing` meets its contract: below j the bytes are the opened bits, and from j on they are 0.
-- Assumes nothing.
use mathlib.Core.Path.{◌≡◌, ◌∙◌, sym, ap}
use mathlib.Core.List.{List}
use Prim.Native.Nat.{ℕ, ◌+◌}
use native.Mathlib.Numerals.{add-one}
use native.Mathlib.Omega.{arith}
use lib.ListN.{set}
use Rattle.jury.specs.Shape.{most_candidates}
use Rattle.basics.specs.Lists.{tabulate}
use Rattle.basics.proofs.Tabulate.{up_to, fill_start, fill_step}
use Rattle.trustee_shares.specs.Shares.{opened, part}
use Rattle.trustee_shares.specs.Views.{piece}
use Rattle.jury.proofs.Rows.{eight_table}
use Rattle.trustees.proofs.run.open_closing.Goals as goal

pub loop-j-init : goal.loop-j-init
unfolding tabulate
loop-j-init c =
    let a = c.args in
    sym (fill_start most_candidates (λ i. opened a.t (λ p. part (piece a.size a.published.now p) (a.first + i))) (λ i. 0))

pub loop-j-preserved : goal.loop-j-preserved
loop-j-preserved c =
    let a = c.args in
    let j = c.loop-j.j in
    let f : ℕ → ℕ = λ i. opened a.t (λ p. part (piece a.size a.published.now p) (a.first + i)) in
    ap (λ (v : ℕ). set c.loop-j.closing j v) c.«open».ensures
    ∙ ap (λ (xs : List ℕ). set xs j (f j)) c.loop-j.invariant
    ∙ fill_step most_candidates j f (λ i. 0) (omega (arith, c.requires))
    ∙ ap (λ (n : ℕ). tabulate most_candidates (up_to n f (λ i. 0))) (sym (add-one j))

pub returns : goal.returns
returns c =
    let a = c.args in
    let f : ℕ → ℕ = λ i. opened a.t (λ p. part (piece a.size a.published.now p) (a.first + i)) in
    let e : c.loop-j.j ≡ a.k = omega arith in
    c.loop-j.invariant ∙ ap (λ (n : ℕ). tabulate most_candidates (up_to n f (λ i. 0))) e ∙ eight_table a.k f

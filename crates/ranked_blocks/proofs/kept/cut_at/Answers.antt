-- `ranked_blocks::kept::cut_at` meets its contract: one test after the other.
-- Assumes nothing.
use mathlib.Core.Path.{◌≡◌, ◌∙◌, sym, ap}
use Prim.Native.Nat.{ℕ, suc, ◌+◌, ◌-◌, ◌/◌, ◌<◌}
use native.Mathlib.Numerals.{add-one}
use native.Mathlib.Omega.{arith}
use Rattle.ranked_blocks.proofs.Entering.{cut_last, cut_row, cut_column, cut_none}
use Rattle.ranked_blocks.proofs.kept.cut_at.Goals as goal
use Rattle.ranked_blocks.proofs.kept.cut_at.Goals.{Else-k-m, then-i-m-via-then-i-m, then-i-m-via-else-i-m+then-j-m}

pub returns-then-k-m : goal.returns-then-k-m
returns-then-k-m c = let a = c.args in sym (cut_last a.k a.digits a.m a.i a.j c.if-k-m.true)

half : (w : ℕ) → (w + 1) / 2 ≡ suc w / 2
half w = ap (λ (x : ℕ). x / 2) (add-one w)

-- there is a next stage
next : (c : Else-k-m) → c.args.m < c.args.k - 1
next c = omega (arith, c.if-k-m.false)

pub returns-then-i-m : goal.returns-then-i-m
returns-then-i-m c = let a = c.args in
    let l = next (goal.at.returns-then-i-m c).Else-k-m in
    half a.digits ∙ sym (elim c.then-i-m.branch [
      | then-i-m-via-then-i-m w ↦ cut_row a.k a.digits a.m a.i a.j l w.if-i-m.true
      | then-i-m-via-else-i-m+then-j-m w ↦ cut_column a.k a.digits a.m a.i a.j l w.if-i-m.false w.if-j-m.true
    ])

pub returns : goal.returns
returns c = let a = c.args in
    sym (cut_none a.k a.digits a.m a.i a.j (next (goal.at.returns c).Else-k-m) c.if-i-m.false
    c.if-j-m.false)

-- `trustee_gates::table::copy_part` meets its contract: a part that is overwritten is a run of entries that are stored.
-- Assumes nothing.
use mathlib.Core.Path.{◌≡◌, sym}
use mathlib.Core.List.{List, append_assoc}
use Prim.Native.Nat.{ℕ, ◌+◌, ◌-◌, ◌≤◌}
use native.Mathlib.Omega.{arith}
use lib.ListN.{length, take, drop, length-take, length-drop}
use lib.Seq.{sets, drop-drop}
use borrow.Rule.Slice.PartMut.{put_mid}
use Rattle.std.proofs.lemmas.List.Edits.{sets-eq}
use Rattle.trustee_gates.proofs.table.copy_part.Goals as goal

overwritten : (a k : ℕ) (xs ys vs : List ℕ) → ys ≡ vs → length vs ≡ k → a + k ≤ length xs
    → put_mid a k xs ys ≡ sets xs a vs
overwritten a k xs ys vs e h fits =
    let there : drop k (drop a xs) ≡ drop (a + k) xs = drop-drop k a xs in
    let s = sets-eq vs xs a (omega arith) in
    rw (e, there, ← h) (sym (rw append_assoc at s))

pub returns : goal.returns
returns c =
    let a = c.args in
    let room : a.into + a.count - a.into ≡ a.count = omega arith in
    let taken : a.at + a.count - a.at ≡ a.count = omega arith in
    let part = take a.count (drop a.at a.from.now) in
    rw room (overwritten a.into a.count a.to.now c.copy.new.to part (rw taken at c.copy.ensures)
    (simp (length-take, length-drop) (omega arith)) (omega arith))

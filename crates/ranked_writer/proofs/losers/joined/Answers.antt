-- `ranked_writer::losers::joined` meets its contract: the wire of another candidate, or a wire of the row.
-- Assumes nothing.
use mathlib.Core.Path.{◌≡◌, ◌∙◌, sym, ap}
use mathlib.Core.Bool.{Bool, cond}
use Prim.Native.Nat.{ℕ, suc, ◌+◌, ◌-◌, ◌≤◌, ◌<◌}
use native.Mathlib.Omega.{arith}
use borrow.Author.Tests.{lt-ltb, le-ltb}
use Rattle.ranked_circuit.specs.RankedList.{other, joined_wire}
use Rattle.ranked_circuit.proofs.LoserLaws.{other_low}
use Rattle.ranked_blocks.specs.Ranked.{kept_of}
use Rattle.ranked_writer.proofs.losers.joined.Goals as goal

low : (k i s o : ℕ) → 2 ≤ k → s < k - 1 → o ≡ other i s → o < k
low k i s o h l e = let two : suc (suc (k - 2)) ≡ k = omega arith in omega (arith, other_low i s (k - 2) (omega arith))

other_is : (beats : ℕ → ℕ → ℕ) (k at i s o x : ℕ) → 2 ≤ k → s < k - 1 → o ≡ other i s → x ≡ beats o i → x
    ≡ joined_wire beats (suc (k - 2)) at i s
unfolding joined_wire
other_is beats k at i s o x h l eo ex =
    ex ∙ ap (λ (z : ℕ). beats z i) eo
    ∙ sym (ap (λ (c : Bool). cond c (beats (other i s) i) (at + (s - suc (k - 2))))
    (lt-ltb s (suc (k - 2)) (omega arith)))

own_is : (beats : ℕ → ℕ → ℕ) (k at i s : ℕ) → 2 ≤ k → k - 1 ≤ s → at + (s - (k - 1)) ≡ joined_wire beats (suc (k - 2)) at i s
unfolding joined_wire
own_is beats k at i s h l =
    let e : k - 1 ≡ suc (k - 2) = omega arith in
    ap (λ (z : ℕ). at + (s - z)) e
    ∙ sym (ap (λ (c : Bool). cond c (beats (other i s) i) (at + (s - suc (k - 2))))
    (le-ltb s (suc (k - 2)) (omega arith)))

pub kept-requires : goal.kept-requires
kept-requires c = record {
  few = c.requires.k_most;
  row = low c.args.k c.args.i
      c.args.s c.other-one.result c.requires.k_least
      c.if-s-k.true c.other-one.ensures;
  column = c.requires.row;
  long = c.requires.long;
}

pub returns-then-s-k : goal.returns-then-s-k
returns-then-s-k c = other_is (kept_of c.args.beats.now
    c.args.k) c.args.k
    c.args.at c.args.i
    c.args.s c.other-one.result c.kept.result
    c.requires.k_least c.if-s-k.true
    c.other-one.ensures c.kept.ensures

pub returns : goal.returns
returns c = own_is (kept_of c.args.beats.now c.args.k)
    c.args.k c.args.at c.args.i
    c.args.s c.requires.k_least (omega (arith, c.if-s-k.false))

-- `ranked_blocks::entries::links_entry` meets its contract: a comparison for the later candidate, whose last two wires are kept.
-- Assumes nothing.
use mathlib.Core.Path.{◌≡◌}
use mathlib.Core.Bool.{true, false, ◌&&◌}
use mathlib.Core.List.{[]}
use Prim.Native.Nat.{ℕ, ◌+◌, ◌*◌, ◌/◌, ◌%◌, ◌≤◌, ◌<◌}
use native.Mathlib.Omega.{arith}
use lib.Dec.{leb, ltb}
use borrow.Author.Tests.{le-leb, lt-leb}
use Rattle.jury.specs.Shape.{most_pairs}
use Rattle.gate_words.proofs.Writing.{room_less, wrote_nothing, wrote_as}
use Rattle.ranked_circuit.proofs.BlockLaws.{length_whole}
use Rattle.ranked_blocks.specs.Ranked.{kept_of}
use Rattle.ranked_blocks.proofs.Entering.{Place, place, index_small, not_later, no_row, a_row, same_links, new_links, links_kept, links_moved, links_long}
use Rattle.ranked_blocks.proofs.entries.links_entry.Goals as goal
use Rattle.ranked_blocks.proofs.entries.links_entry.Goals.{After-compare-next, Else-i-first, then-i-j-via-then-i-j, then-i-j-via-else-i-j+then-i-first}

-- What is known after the tests: the row is the later candidate's and has a block.

pub record Facts (k e first : ℕ) : Type 0 where
  pub here : Place k e
  pub later : e % k < e / k
  pub row : (ltb (e % k) (e / k) && leb first (e / k)) ≡ true
  pub index : e / k * k + e % k < most_pairs
  pub index_back : e % k * k + e / k < most_pairs

facts : (c : Else-i-first) → Facts c.args.p.candidates c.args.e c.args.first
facts c =
    let k = c.args.p.candidates in
    let e = c.args.e in
    let most = c.requires.kept.ranked.k_most in
    let t = place k e most c.requires.number in
    let l : e % k < e / k = omega (arith, c.if-i-j.false) in
    record {
      here = t;
      later = l;
      row = a_row (leb c.args.first) (e / k) (e % k) l (le-leb c.args.first (e / k) (omega (arith, c.if-i-first.false)));
      index = index_small k (e / k) (e % k) most t.row t.column;
      index_back = index_small k (e % k) (e / k) most t.column t.row;
    }

pub returns-then-i-j : goal.returns-then-i-j
returns-then-i-j c = let a = c.args in
    let k = a.p.candidates in
    let q : (ltb (a.e % k) (a.e / k) && leb a.first (a.e / k)) ≡ false = elim c.then-i-j.branch [
      | then-i-j-via-then-i-j w ↦ not_later (leb a.first) (a.e / k) (a.e % k) w.if-i-j.true
      | then-i-j-via-else-i-j+then-i-first w ↦ no_row (leb a.first) (a.e / k) (a.e % k) (lt-leb a.first (a.e / k) w.if-i-first.true)
    ] in
    record {
      wrote = wrote_as a.w a.table.now [] _ a.table.now a.w
          (links_kept a.first (kept_of a.words.now k) a.p.digits a.w.wire (a.e / k) (a.e % k) q)
          (wrote_nothing a.w a.table.now);
      kept = same_links (leb a.first) a.links.now k (a.e / k) (a.e % k) a.w.wire q;
    }

pub compare-next-requires : goal.compare-next-requires
compare-next-requires c = let a = c.args in
    let k = a.p.candidates in
    let f = facts (goal.at.compare-next-requires c).Else-i-first in
    let t = f.here in
    let l = f.later in
    let b = c.requires.kept.below in
    record {
      room = room_less a.w _ _ (omega (
        arith,
        links_long a.first (kept_of a.words.now k) a.p.digits a.w.wire (a.e / k) (a.e % k)
            f.row,
      )) c.requires.room;
      first_below = omega (arith, b (a.e / k) (a.e % k) t.row t.column (λ z. omega arith), c.kept.ensures);
      second_below = omega (arith, b (a.e % k) (a.e / k) t.column t.row (λ z. omega arith), c.kept-2.ensures);
    }

ended : (c : After-compare-next) → 2 ≤ c.compare-next.result.wire
ended c = let a = c.args in
    omega (
      arith,
      c.compare-next.ensures.wires,
      length_whole a.w.wire c.kept.result c.kept-2.result a.p.digits,
    )

pub overflow_sub-links : goal.overflow_sub-links
overflow_sub-links c = omega (arith, ended (goal.at.overflow_sub-links c).After-compare-next)

pub returns : goal.returns
returns c = let a = c.args in
    let k = a.p.candidates in
    let q = (facts (goal.at.returns c).Else-i-first).row in
    let next = c.compare-next.result in
    record {
      wrote = wrote_as a.w a.table.now _ _ c.compare-next.new.table next
          (links_moved a.first (kept_of a.words.now k) a.p.digits a.w.wire (a.e / k) (a.e % k) q
          c.kept.result c.kept-2.result c.kept.ensures
          c.kept-2.ensures) c.compare-next.ensures;
      kept = new_links (leb a.first) a.links.now k (a.e / k) (a.e % k) next.wire q;
    }

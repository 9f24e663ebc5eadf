-- `ranked_blocks::entries::meetings_entry` meets its contract: a meeting for the later candidate, whose last two wires are kept.
-- Assumes nothing.
use mathlib.Core.Path.{◌≡◌}
use mathlib.Core.Bool.{true, false, ◌&&◌}
use mathlib.Core.List.{[]}
use Prim.Native.Nat.{ℕ, suc, ◌+◌, ◌-◌, ◌*◌, ◌/◌, ◌%◌, ◌≤◌, ◌<◌}
use native.Mathlib.Omega.{arith}
use lib.Dec.{ltb}
use borrow.Author.Tests.{lt-ltb, le-ltb}
use Rattle.jury.specs.Shape.{most_pairs}
use Rattle.gate_words.proofs.Writing.{room_less, wrote_nothing, wrote_as}
use Rattle.ranked_blocks.specs.Ranked.{kept_of}
use Rattle.ranked_blocks.proofs.Entering.{Place, place, index_small, not_later, no_row, a_row, same_links, new_links, meetings_kept, meetings_moved, meeting_long, meetings_long}
use Rattle.ranked_blocks.proofs.entries.meetings_entry.Goals as goal
use Rattle.ranked_blocks.proofs.entries.meetings_entry.Goals.{After-meet-next, Else-k-i, then-i-j-via-then-i-j, then-i-j-via-else-i-j+then-k-i}

-- What is known after the tests: the row is the later candidate's and has a block.

pub record Facts (k e : ℕ) : Type 0 where
  pub here : Place k e
  pub later : e % k < e / k
  pub row : (ltb (e % k) (e / k) && ltb (e / k) (k - 1)) ≡ true
  pub index : e / k * k + e % k < most_pairs
  pub index_back : e % k * k + e / k < most_pairs
  pub other : suc (e / k) < k

facts : (c : Else-k-i) → Facts c.args.p.candidates c.args.e
facts c =
    let k = c.args.p.candidates in
    let e = c.args.e in
    let most = c.requires.kept.ranked.k_most in
    let t = place k e most c.requires.number in
    let l : e % k < e / k = omega (arith, c.if-i-j.false) in
    record {
      here = t;
      later = l;
      row = a_row (λ y. ltb y (k - 1)) (e / k) (e % k) l (lt-ltb (e / k) (k - 1) (omega (arith, c.if-k-i.false)));
      index = index_small k (e / k) (e % k) most t.row t.column;
      index_back = index_small k (e % k) (e / k) most t.column t.row;
      other = omega (arith, c.if-k-i.false, t.row);
    }

pub returns-then-i-j : goal.returns-then-i-j
returns-then-i-j c = let a = c.args in
    let k = a.p.candidates in
    let q : (ltb (a.e % k) (a.e / k) && ltb (a.e / k) (k - 1)) ≡ false = elim c.then-i-j.branch [
      | then-i-j-via-then-i-j w ↦ not_later (λ y. ltb y (k - 1)) (a.e / k) (a.e % k) w.if-i-j.true
      | then-i-j-via-else-i-j+then-k-i w ↦
          no_row (λ y. ltb y (k - 1)) (a.e / k) (a.e % k) (le-ltb (a.e / k) (k - 1) w.if-k-i.true)
    ] in
    record {
      wrote = wrote_as a.w a.table.now [] _ a.table.now a.w
          (meetings_kept (k - 1) (kept_of a.words.now k) (kept_of a.met.now k) a.p.digits a.w.wire
          (a.e / k) (a.e % k) q)
          (wrote_nothing a.w a.table.now);
      kept = same_links (λ y. ltb y (k - 1)) a.met.now k (a.e / k) (a.e % k) a.w.wire q;
    }

pub meet-next-requires : goal.meet-next-requires
meet-next-requires c = let a = c.args in
    let k = a.p.candidates in
    let f = facts (goal.at.meet-next-requires c).Else-k-i in
    record {
      kept = c.requires.kept;
      room = room_less a.w _ _ (omega (
        arith,
        meetings_long (k - 1) (kept_of a.words.now k) (kept_of a.met.now k) a.p.digits a.w.wire
            (a.e / k) (a.e % k) f.row,
      )) c.requires.room;
      later = f.later;
      other = f.other;
    }

ended : (c : After-meet-next) → 2 ≤ c.meet-next.result.wire
ended c =
    let a = c.args in
    let k = a.p.candidates in
    omega (
      arith,
      c.meet-next.ensures.wires,
      meeting_long (k - 1) (kept_of a.words.now k) (kept_of a.met.now k) a.p.digits a.w.wire (a.e / k)
          (a.e % k),
    )

pub overflow_sub-met : goal.overflow_sub-met
overflow_sub-met c = omega (arith, ended (goal.at.overflow_sub-met c).After-meet-next)

pub returns : goal.returns
returns c = let a = c.args in
    let k = a.p.candidates in
    let q = (facts (goal.at.returns c).Else-k-i).row in
    let next = c.meet-next.result in
    record {
      wrote = wrote_as a.w a.table.now _ _ c.meet-next.new.table next
          (meetings_moved (k - 1) (kept_of a.words.now k) (kept_of a.met.now k) a.p.digits a.w.wire
          (a.e / k) (a.e % k) q) c.meet-next.ensures;
      kept = new_links (λ y. ltb y (k - 1)) a.met.now k (a.e / k) (a.e % k) next.wire q;
    }

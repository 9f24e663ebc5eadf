-- `ranked_blocks::entries::path_entry` meets its contract: nothing if the stage leaves the word, else a new word that
-- is kept.
-- Assumes nothing.
use mathlib.Core.Path.{◌≡◌, ◌∙◌, sym, ap}
use mathlib.Core.Bool.{true, false}
use mathlib.Core.List.{[]}
use Prim.Native.Nat.{suc, ◌-◌, ◌/◌, ◌%◌, ◌≤◌}
use native.Mathlib.Omega.{arith}
use lib.ListN.{length, set}
use Rattle.gate_words.proofs.Writing.{room_less, wrote_nothing, wrote_as}
use Rattle.ranked_circuit.specs.Stages.{stays, cut_at}
use Rattle.ranked_circuit.proofs.StageLaws.{cut_most}
use Rattle.ranked_blocks.specs.Ranked.{kept_of}
use Rattle.ranked_blocks.proofs.Entering.{place, long_word, path_kept, path_moved, keeps, stores}
use Rattle.ranked_blocks.proofs.entries.path_entry.Goals as goal
use Rattle.ranked_blocks.proofs.entries.path_entry.Goals.{After-new_word-next, Else-stays}

pub returns-then-stays : goal.returns-then-stays
returns-then-stays c = let a = c.args in
    let k = a.p.candidates in
    let q : stays a.m (a.e / k) (a.e % k) ≡ true = sym c.stays.ensures ∙ c.if-stays.true in
    record {
      wrote = wrote_as a.w a.table.now [] _ a.table.now a.w
          (path_kept k (kept_of a.links.now k) (kept_of a.words.now k) a.p.digits a.w.wire (a.e / k)
          (a.e % k) a.m q) (wrote_nothing a.w a.table.now);
      kept = keeps (stays a.m (a.e / k) (a.e % k)) a.words.now _ q;
    }

moves : (c : Else-stays) → stays c.args.m
    (c.args.e / c.args.p.candidates)
    (c.args.e % c.args.p.candidates) ≡ false
moves c = sym c.stays.ensures ∙ c.if-stays.false

pub new_word-next-requires : goal.new_word-next-requires
new_word-next-requires c = let a = c.args in
    let k = a.p.candidates in
    let t = place k a.e c.requires.entry.kept.ranked.k_most
    c.requires.entry.number in
    let q = moves (goal.at.new_word-next-requires c).Else-stays in
    let g = c.requires in
    record {
      kept = g.entry.kept;
      room = room_less a.w _ _ (omega (
        arith,
        ap length (path_moved k (kept_of a.links.now k) (kept_of a.words.now k) a.p.digits a.w.wire
            (a.e / k) (a.e % k) a.m q),
      )) g.entry.room;
      stage = g.stage;
      row = t.row;
      column = t.column;
      moves = q;
    }

ended : (c : After-new_word-next) → suc c.args.p.digits ≤ c.new_word-next.result.wire
ended c =
    let a = c.args in
    let k = a.p.candidates in
    omega (
      arith,
      c.new_word-next.ensures.wires,
      long_word (kept_of a.links.now k) (kept_of a.words.now k) a.p.digits
          (cut_at k a.p.digits a.m (a.e / k) (a.e % k)) a.w.wire (a.e / k) (a.e % k)
          (cut_most k a.p.digits a.m (a.e / k) (a.e % k)) a.m,
    )

pub overflow_sub-words : goal.overflow_sub-words
overflow_sub-words c = omega (arith, ended (goal.at.overflow_sub-words c).After-new_word-next)

pub overflow_sub-words-2 : goal.overflow_sub-words-2
overflow_sub-words-2 c = omega (arith, ended (goal.at.overflow_sub-words-2 c).After-new_word-next)

pub returns : goal.returns
returns c = let a = c.args in
    let k = a.p.candidates in
    let next = c.new_word-next.result in
    let q = moves (goal.at.returns c).Else-stays in
    let back : next.wire - a.p.digits - 1 ≡ next.wire - suc a.p.digits = omega arith in
    record {
      wrote = wrote_as a.w a.table.now _ _ c.new_word-next.new.table next
          (path_moved k (kept_of a.links.now k) (kept_of a.words.now k) a.p.digits a.w.wire (a.e / k)
          (a.e % k) a.m q) c.new_word-next.ensures;
      kept = stores (stays a.m (a.e / k) (a.e % k)) a.words.now _ _ q (ap (set a.words.now a.e) back);
    }

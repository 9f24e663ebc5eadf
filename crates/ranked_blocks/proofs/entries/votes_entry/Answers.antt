-- `ranked_blocks::entries::votes_entry` meets its contract: nothing on the diagonal, else a counter whose word is kept.
-- Assumes nothing.
use mathlib.Core.Path.{◌≡◌, ◌∙◌, sym, ap}
use mathlib.Core.List.{[]}
use Prim.Native.Nat.{suc, ◌+◌, ◌-◌, ◌*◌, ◌/◌, ◌%◌, ◌≤◌}
use native.Mathlib.Omega.{arith}
use lib.Dec.{eqb}
use lib.ListN.{length, set}
use borrow.Author.Tests.{eq-eqb, ne_eqb}
use Rattle.gate_words.specs.Word.{Below}
use Rattle.gate_words.specs.Counter.{count_size}
use Rattle.gate_words.proofs.Laws.{length_counter}
use Rattle.gate_words.proofs.Writing.{room_less, wrote_nothing, wrote_as}
use Rattle.ranked_circuit.specs.Stages.{votes_block}
use Rattle.ranked_circuit.proofs.GoodLaws.{bytes_below}
use Rattle.ranked_blocks.proofs.Entering.{square_small, place, votes_kept, votes_moved, keeps, stores}
use Rattle.ranked_blocks.proofs.entries.votes_entry.Goals as goal
use Rattle.ranked_blocks.proofs.entries.votes_entry.Goals.{After-counter-next, Else-e-k}

pub returns-then-e-k : goal.returns-then-e-k
returns-then-e-k c = let a = c.args in
    let k = a.p.candidates in
    record {
      wrote = wrote_as a.w a.table.now [] _ a.table.now a.w
          (votes_kept k a.p.ballots a.p.digits a.w.wire (a.e / k) (a.e % k) c.if-e-k.true)
          (wrote_nothing a.w a.table.now);
      kept = keeps (eqb (a.e / k) (a.e % k)) a.words.now _ (eq-eqb (a.e / k) (a.e % k) c.if-e-k.true);
    }

bytes : (c : Else-e-k) → Below c.args.w.wire c.args.e
    (c.args.p.candidates * c.args.p.candidates)
    c.args.p.ballots
bytes c =
    let a = c.args in
    let k = a.p.candidates in
    let t = place k a.e c.requires.ranked.k_most c.requires.number in
    rw (← t.number) (bytes_below k a.p.ballots a.w.wire (a.e / k) (a.e % k) t.row t.column
    c.requires.ballots_below)

size : (c : Else-e-k) → length
    (votes_block c.args.p.candidates c.args.p.ballots
    c.args.p.digits c.args.w.wire
    (c.args.e / c.args.p.candidates)
    (c.args.e % c.args.p.candidates))
    ≡ count_size c.args.p.ballots 0 c.args.p.digits
    + suc c.args.p.digits
size c =
    let a = c.args in
    let k = a.p.candidates in
    let t = place k a.e c.requires.ranked.k_most c.requires.number in
    sym (ap length (votes_moved k a.p.ballots a.p.digits a.w.wire (a.e / k) (a.e % k) a.e
    t.number c.if-e-k.false))
    ∙ omega (arith, length_counter a.w.wire a.e (k * k) a.p.ballots 0 a.p.digits)

pub counter-next-requires : goal.counter-next-requires
counter-next-requires c = let a = c.args in
    let f = c.requires.ranked in
    record {
      room = room_less a.w _ _ (omega (arith, size (goal.at.counter-next-requires c).Else-e-k)) c.requires.room;
      below = bytes (goal.at.counter-next-requires c).Else-e-k;
      near = omega (arith, square_small a.p.candidates f.k_most);
      few = omega (arith, f.n_most);
      countable = f.countable;
    }

ended : (c : After-counter-next) → suc c.args.p.digits ≤ c.counter-next.result.wire
ended c =
    let a = c.args in
    omega (
      arith,
      c.counter-next.ensures.wires,
      length_counter a.w.wire a.e (a.p.candidates * a.p.candidates) a.p.ballots 0 a.p.digits,
    )

pub overflow_sub-words : goal.overflow_sub-words
overflow_sub-words c = omega (arith, ended (goal.at.overflow_sub-words c).After-counter-next)

pub overflow_sub-words-2 : goal.overflow_sub-words-2
overflow_sub-words-2 c = omega (arith, ended (goal.at.overflow_sub-words-2 c).After-counter-next)

pub returns : goal.returns
returns c = let a = c.args in
    let k = a.p.candidates in
    let next = c.counter-next.result in
    let t = place k a.e c.requires.ranked.k_most c.requires.number in
    let back : next.wire - a.p.digits - 1 ≡ next.wire - suc a.p.digits = omega arith in
    record {
      wrote = wrote_as a.w a.table.now _ _ c.counter-next.new.table next
          (votes_moved k a.p.ballots a.p.digits a.w.wire (a.e / k) (a.e % k) a.e t.number
          c.if-e-k.false) c.counter-next.ensures;
      kept = stores (eqb (a.e / k) (a.e % k)) a.words.now _ _
          (ne_eqb (a.e / k) (a.e % k) c.if-e-k.false)
          (ap (set a.words.now a.e) back);
    }

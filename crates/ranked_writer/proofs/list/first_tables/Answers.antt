-- `ranked_writer::list::first_tables` meets its contract: the numbers of ballots, then the links.
-- Assumes nothing.
use mathlib.Core.Path.{◌≡◌, ◌∙◌, sym, ap, subst}
use Prim.Native.Nat.{ℕ, ◌+◌, ◌*◌}
use native.Mathlib.Omega.{arith}
use lib.ListN.{length, length-append}
use Rattle.gate_words.proofs.Writing.{room_less, room_after, wrote_as, wrote_both}
use Rattle.ranked_circuit.specs.Table.{table}
use Rattle.ranked_circuit.specs.Stages.{votes_block, links_block}
use Rattle.ranked_circuit.specs.Paths.{votes_at, links_from, paths_to}
use Rattle.ranked_blocks.specs.Ranked.{kept_of}
use Rattle.ranked_writer.specs.Tables.{Keeps}
use Rattle.ranked_writer.proofs.Parts.{first_parts, links_from_lem, votes_words, votes_kept_below, link_wire_is, first_links_is, links_table_is, links_kept_is}
use Rattle.ranked_writer.proofs.list.first_tables.Goals as goal
use Rattle.ranked_writer.proofs.list.first_tables.Goals.{After-votes_table-counted}

-- the length of both tables
long : (k n w : ℕ) → length (paths_to k n w 0).gates ≡ length (table (n * k * k) k (votes_block k n w))
    + length (table (links_from k n w) k (links_block 0 (votes_at k n w) w))
long k n w = ap length (first_parts k n w)
    ∙ length-append (table (n * k * k) k (votes_block k n w))
    (table (links_from k n w) k (links_block 0 (votes_at k n w) w))

votes_from : (k n w wire : ℕ) → wire ≡ n * k * k → table wire k (votes_block k n w) ≡ table (n * k * k) k (votes_block k n w)
votes_from k n w wire q = ap (λ (x : ℕ). table x k (votes_block k n w)) q

pub votes_table-counted-requires : goal.votes_table-counted-requires
votes_table-counted-requires c = let a = c.args in
    let p = a.p in
    let q = c.requires in
    record {
      ranked = c.requires.ranked;
      room = room_less a.w _ _ (omega (
        arith,
        ap length (votes_from p.candidates p.ballots p.digits a.w.wire q.place),
        long p.candidates p.ballots p.digits,
      )) c.requires.room;
      ballots_below = omega (arith, q.place);
      words_long = q.words_long;
    }

kept : (c : After-votes_table-counted)
    → Keeps c.args.p.candidates c.votes_table-counted.new.words
    (paths_to c.args.p.candidates c.args.p.ballots
    c.args.p.digits 0).words
kept c =
    let a = c.args in
    votes_words a.p.candidates a.p.ballots a.p.digits a.w.wire c.votes_table-counted.new.words
    c.requires.place c.votes_table-counted.ensures.kept

stands : (c : After-votes_table-counted) → c.votes_table-counted.result.wire
    ≡ links_from c.args.p.candidates c.args.p.ballots
    c.args.p.digits
stands c =
    let a = c.args in
    let p = a.p in
    omega (
      arith,
      c.votes_table-counted.ensures.wrote.wires,
      ap length (votes_from p.candidates p.ballots p.digits a.w.wire
          c.requires.place),
      links_from_lem p.candidates p.ballots p.digits,
      c.requires.place,
    )

same : (c : After-votes_table-counted)
    → table c.votes_table-counted.result.wire c.args.p.candidates
    (links_block 0 (kept_of c.votes_table-counted.new.words c.args.p.candidates)
    c.args.p.digits)
    ≡ table (links_from c.args.p.candidates
    c.args.p.ballots c.args.p.digits)
    c.args.p.candidates
    (links_block 0 (votes_at c.args.p.candidates
    c.args.p.ballots c.args.p.digits)
    c.args.p.digits)
same c =
    let p = c.args.p in
    links_table_is p.candidates p.ballots p.digits 0
    (paths_to p.candidates p.ballots p.digits 0).words c.votes_table-counted.new.words (kept (c))
    c.votes_table-counted.result.wire (links_from p.candidates p.ballots p.digits) (stands (c))
    ∙ first_links_is p.candidates p.ballots p.digits

pub links_table-requires : goal.links_table-requires
links_table-requires c = let a = c.args in
    let p = a.p in
    let v = c.votes_table-counted in
    let k = kept (goal.at.links_table-requires c).After-votes_table-counted in
    record {
      kept = record {
        ranked = c.requires.ranked;
        words_long = k.long;
        wires_long = c.requires.links_long;
        below = votes_kept_below p.candidates p.ballots p.digits v.result.wire v.new.words
            (stands (goal.at.links_table-requires c).After-votes_table-counted) k;
      };
      room = room_after a.w a.table.now _ v.new.table v.result _ _ v.ensures.wrote
          (omega (
            arith,
            ap length (votes_from p.candidates p.ballots p.digits a.w.wire
                c.requires.place),
            long p.candidates p.ballots p.digits,
            ap length (same (goal.at.links_table-requires c).After-votes_table-counted),
          )) c.requires.room;
    }

pub returns : goal.returns
returns c = let a = c.args in
    let p = a.p in
    let v = c.votes_table-counted in
    let l = c.links_table in
    let words = (paths_to p.candidates p.ballots p.digits 0).words in
    let from = links_from p.candidates p.ballots p.digits in
    record {
      wrote = wrote_as a.w a.table.now _ _ l.new.table l.result (sym (first_parts p.candidates p.ballots p.digits))
          (wrote_both a.w a.table.now
          (table (p.ballots * p.candidates * p.candidates) p.candidates
          (votes_block p.candidates p.ballots p.digits)) v.new.table v.result _ l.new.table
          l.result
          (wrote_as a.w a.table.now _ _ v.new.table v.result
          (votes_from p.candidates p.ballots p.digits a.w.wire
          c.requires.place) v.ensures.wrote)
          (wrote_as v.result v.new.table _ _ l.new.table l.result
          (same (goal.at.returns c).After-votes_table-counted) l.ensures.wrote));
      words_kept = kept (goal.at.returns c).After-votes_table-counted;
      links_kept = subst (λ (f : ℕ → ℕ → ℕ). Keeps p.candidates l.new.links f)
          (link_wire_is p.candidates p.ballots p.digits)
          (links_kept_is p.candidates p.ballots p.digits words v.new.words
          (kept (goal.at.returns c).After-votes_table-counted) v.result.wire from l.new.links
          (kept_of a.links.now p.candidates) (stands (goal.at.returns c).After-votes_table-counted) l.ensures.kept);
    }

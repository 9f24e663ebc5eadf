-- `ranked_writer::list::contests` meets its contract: the duels, then the meetings.
-- Assumes nothing.
use mathlib.Core.Path.{◌≡◌, ◌∙◌}
use Prim.Native.Nat.{◌-◌}
use native.Mathlib.Omega.{arith}
use mathlib.Core.Path.{ap}
use lib.ListN.{length}
use Rattle.gate_words.proofs.Writing.{room_less, room_after, wrote_as, wrote_both}
use Rattle.ranked_circuit.specs.Table.{table}
use Rattle.ranked_circuit.specs.Stages.{links_block}
use Rattle.ranked_circuit.specs.Contests.{duels, meetings_block, meetings_from, meetings}
use Rattle.ranked_blocks.specs.Ranked.{kept_of, WordsBelow}
use Rattle.ranked_writer.proofs.Parts.{kept_below, duels_from_lem, meetings_from_lem, duels_table_is, meetings_table_is, beats_kept}
use Rattle.ranked_writer.proofs.list.contests.Goals as goal
use Rattle.ranked_writer.proofs.list.contests.Goals.{After-links_table-met, Start}

-- the table of duels is that of the definition
same : (s : Start) → table s.args.w.wire s.args.p.candidates
    (links_block (s.args.p.candidates - 1) (kept_of s.args.words.now s.args.p.candidates)
    s.args.p.digits) ≡ duels s.args.p.candidates s.args.p.ballots s.args.p.digits
same s =
    let p = s.args.p in
    duels_table_is p.candidates p.ballots p.digits s.args.words.now s.requires.paths s.args.w.wire s.requires.place

below : (s : Start) → WordsBelow s.args.words.now s.args.p.candidates s.args.p.digits s.args.w.wire
below s =
    let p = s.args.p in
    kept_below p.candidates p.ballots p.digits p.candidates s.args.words.now s.args.w.wire
    s.requires.paths (s.requires.place ∙ duels_from_lem p.candidates p.ballots p.digits)

pub links_table-met-requires : goal.links_table-met-requires
links_table-met-requires c = record {
  kept = record {
    ranked = c.requires.ranked;
    words_long = c.requires.paths.long;
    wires_long = c.requires.long;
    below =
        below (goal.at.links_table-met-requires c).Start;
  };
  room = room_less c.args.w _ _ (omega (arith, ap length (same (goal.at.links_table-met-requires c).Start))) c.requires.room;
}

-- the writer after the duels, and the meetings there
stands : (c : After-links_table-met) → c.links_table-met.result.wire
    ≡ meetings_from c.args.p.candidates c.args.p.ballots c.args.p.digits
stands c =
    let p = c.args.p in
    omega (
      arith,
      c.links_table-met.ensures.wrote.wires,
      ap length (duels_table_is p.candidates p.ballots p.digits c.args.words.now c.requires.paths c.args.w.wire c.requires.place),
      c.requires.place,
      meetings_from_lem p.candidates p.ballots p.digits,
    )

met : (c : After-links_table-met)
    → table c.links_table-met.result.wire c.args.p.candidates
    (meetings_block (c.args.p.candidates - 1)
    (kept_of c.args.words.now c.args.p.candidates)
    (kept_of c.links_table-met.new.links c.args.p.candidates) c.args.p.digits)
    ≡ meetings c.args.p.candidates c.args.p.ballots c.args.p.digits
met c =
    let a = c.args in
    let p = a.p in
    meetings_table_is p.candidates p.ballots p.digits a.words.now c.requires.paths a.w.wire
    c.requires.place c.links_table-met.new.links a.beats.now c.links_table-met.ensures.kept
    c.links_table-met.result.wire (stands c)

pub meetings_table-requires : goal.meetings_table-requires
meetings_table-requires c = let a = c.args in
    let l = c.links_table-met in
    let grown = l.ensures.wrote.wires in
    record {
      kept = record {
        ranked = c.requires.ranked;
        words_long = c.requires.paths.long;
        wires_long = l.ensures.kept.long;
        below = λ i j hi hj ne. omega (arith, below (goal.at.meetings_table-requires c).Start i j hi hj ne);
      };
      room = room_after a.w a.table.now _ l.new.table l.result _ _ l.ensures.wrote
          (omega (
            arith,
            ap length (same (goal.at.meetings_table-requires c).Start),
            ap length (met (goal.at.meetings_table-requires c).After-links_table-met),
          )) c.requires.room;
    }

pub returns : goal.returns
returns c = let a = c.args in
    let p = a.p in
    let k = p.candidates in
    let n = p.ballots in
    let w = p.digits in
    let l = c.links_table-met in
    let m = c.meetings_table in
    record {
      wrote =
          wrote_both a.w a.table.now (duels k n w) l.new.table l.result (meetings k n w) m.new.table m.result
          (wrote_as a.w a.table.now _ (duels k n w) l.new.table l.result
          (same (goal.at.returns c).Start)
          l.ensures.wrote)
          (wrote_as l.result l.new.table _ (meetings k n w) m.new.table m.result
          (met (goal.at.returns c).After-links_table-met) m.ensures.wrote);
      kept = beats_kept k n w a.words.now c.requires.paths a.w.wire c.requires.place l.new.links
          a.beats.now l.ensures.kept l.result.wire m.new.met (stands (goal.at.returns c).After-links_table-met)
          m.ensures.kept;
    }

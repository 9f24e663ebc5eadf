-- `ranked_writer::list::path_tables` meets its contract: one stage after the other.
-- Assumes nothing.
use mathlib.Core.Path.{◌≡◌, ◌∙◌, refl, sym, ap, subst}
use mathlib.Core.List.{[], ◌++◌}
use Prim.Native.Nat.{ℕ, suc}
use native.Mathlib.Numerals.{add-one}
use native.Mathlib.Omega.{arith}
use lib.ListN.{length}
use Rattle.gate_words.proofs.Writing.{room_less, room_after, wrote_nothing, wrote_as, wrote_both}
use Rattle.ranked_circuit.specs.Table.{table}
use Rattle.ranked_circuit.specs.Stages.{path_block}
use Rattle.ranked_circuit.specs.Paths.{link_wire, paths_to}
use Rattle.ranked_circuit.proofs.GoodLaws.{end_of}
use Rattle.ranked_blocks.specs.Ranked.{kept_of}
use Rattle.ranked_blocks.specs.declared.entries.Ranks.{Ranks}
use Rattle.ranked_writer.specs.Tables.{Keeps}
use Rattle.ranked_writer.proofs.Parts.{kept_below, stages_to, stages_split, stages_long, stages_next, stages_grow, stage_table, stage_words, stage_end_lem}
use Rattle.ranked_writer.proofs.list.path_tables.Invariants.{words_at, stages}
use Rattle.ranked_writer.proofs.list.path_tables.Goals as goal
use Rattle.ranked_writer.proofs.list.path_tables.Goals.{In-loop-m}

pub first_tables-next-requires : goal.first_tables-next-requires
first_tables-next-requires c = let a = c.args in
    let p = a.p in
    record {
      ranked = c.requires.ranked;
      room = room_less a.w _ _ (omega (
        arith,
        stages_long p.candidates p.ballots p.digits p.candidates,
      ))
          c.requires.room;
      place = c.requires.place;
      links_long = refl;
      words_long = c.requires.words_long;
    }

nothing : (p : Ranks) → stages p 0 ≡ []
nothing p = unfold stages_to in refl

pub loop-m-init : goal.loop-m-init
loop-m-init c = let a = c.args in
    let p = a.p in
    let f = c.first_tables-next in (
      f.ensures.links_kept,
      omega (arith, f.ensures.wrote.wires, c.requires.place),
      wrote_as f.result f.new.table _ _ f.new.table f.result (sym (nothing p)) (wrote_nothing f.result f.new.table),
      f.ensures.words_kept,
    )

-- the stage, in terms of the wires that are kept
same : (c : In-loop-m)
    → table c.loop-m.next.wire c.args.p.candidates
    (path_block c.args.p.candidates
    (kept_of c.first_tables-next.new.links
    c.args.p.candidates)
    (kept_of c.loop-m.words c.args.p.candidates)
    c.args.p.digits c.loop-m.m)
    ≡ table (end_of c.args.p.candidates c.args.p.ballots
    c.args.p.digits c.loop-m.m)
    c.args.p.candidates
    (path_block c.args.p.candidates
    (link_wire c.args.p.candidates c.args.p.ballots
    c.args.p.digits)
    (words_at c.args.p c.loop-m.m)
    c.args.p.digits c.loop-m.m)
same c =
    let p = c.args.p in
    let l = c.loop-m in
    stage_table p.candidates p.ballots p.digits l.m (omega (arith, c.loop-m-test.true))
    c.first_tables-next.new.links l.words l.invariant.0 l.invariant.3 l.next.wire
    l.invariant.1

pub path_table-next-requires : goal.path_table-next-requires
path_table-next-requires c = let a = c.args in
    let p = a.p in
    let l = c.loop-m in
    let f = c.first_tables-next in
    let room₀ = room_after a.w a.table.now _ f.new.table f.result (length (stages p p.candidates))
    _ f.ensures.wrote (omega (arith, stages_long p.candidates p.ballots p.digits p.candidates))
    c.requires.room in
    let grow = stages_grow p.candidates p.ballots p.digits p.candidates (suc l.m)
    c.loop-m-test.true in
    let next = stages_next p.candidates p.ballots p.digits l.m in
    record {
      ready = record {
        kept = record {
          ranked = c.requires.ranked;
          words_long = l.invariant.3.long;
          wires_long = l.invariant.0.long;
          below = kept_below p.candidates p.ballots p.digits l.m l.words l.next.wire l.invariant.3 l.invariant.1;
        };
        room = room_after f.result f.new.table _ l.table l.next _ _ l.invariant.2
            (omega (arith, ap length (same (goal.at.path_table-next-requires c).In-loop-m), grow, next)) room₀;
      };
      stage = omega (arith, c.loop-m-test.true);
    }

stages_are : (p : Ranks) (m : ℕ) → stages p m
    ++ table (end_of p.candidates p.ballots p.digits m) p.candidates
    (path_block p.candidates (link_wire p.candidates p.ballots p.digits) (words_at p m) p.digits m)
    ≡ stages p (suc m)
stages_are p m = unfold stages_to in refl

pub loop-m-preserved : goal.loop-m-preserved
loop-m-preserved c = let a = c.args in
    let p = a.p in
    let l = c.loop-m in
    let f = c.first_tables-next in
    let h = c.path_table-next in
    let e = add-one l.m in (
      l.invariant.0,
      omega (
        arith,
        h.ensures.wrote.wires,
        ap length (same (goal.at.loop-m-preserved c).In-loop-m),
        stage_end_lem p.candidates p.ballots p.digits l.m,
        l.invariant.1,
      )
          ∙ ap (end_of p.candidates p.ballots p.digits) (sym e),
      wrote_as f.result f.new.table _ _ h.new.table h.result (stages_are p l.m ∙ ap (stages p) (sym e))
          (wrote_both f.result f.new.table (stages p l.m) l.table l.next _ h.new.table
          h.result l.invariant.2 (wrote_as l.next l.table _ _ h.new.table h.result
          (same (goal.at.loop-m-preserved c).In-loop-m) h.ensures.wrote)),
      subst (λ (x : ℕ). Keeps p.candidates h.new.words (words_at p x)) (sym e)
          (stage_words p.candidates p.ballots p.digits l.m
          (omega (arith, c.loop-m-test.true)) f.new.links l.words l.invariant.0
          l.invariant.3 l.next.wire h.new.words l.invariant.1 h.ensures.kept),
    )

pub returns : goal.returns
returns c = let a = c.args in
    let p = a.p in
    let l = c.loop-m in
    let f = c.first_tables-next in
    let all : l.m ≡ p.candidates = omega arith in
    record {
      wrote = wrote_as a.w a.table.now _ _ l.table l.next
          (sym (stages_split p.candidates p.ballots p.digits l.m)
          ∙ ap (λ (x : ℕ). (paths_to p.candidates p.ballots p.digits x).gates) all)
          (wrote_both a.w a.table.now (paths_to p.candidates p.ballots p.digits 0).gates
          f.new.table f.result (stages p l.m) l.table l.next f.ensures.wrote l.invariant.2);
      kept = subst (λ (x : ℕ). Keeps p.candidates l.words (words_at p x)) all l.invariant.3;
    }

-- `ranked_writer::list::pair_circuit` meets its contract: the links, then who has no link against it.
-- Assumes nothing.
use mathlib.Core.Path.{◌≡◌, ◌∙◌, refl, sym, ap}
use mathlib.Core.List.{List}
use Prim.Native.Nat.{ℕ, suc, ◌+◌, ◌-◌, ◌*◌}
use native.Mathlib.Omega.{arith}
use lib.ListN.{length, length-append}
use Rattle.gate_words.proofs.Writing.{room_less, room_after, wrote_as, wrote_both}
use Rattle.ranked_circuit.specs.Paths.{link_wire, paths_to}
use Rattle.ranked_circuit.specs.RankedList.{output_gates, ranked_list}
use Rattle.ranked_circuit.proofs.GoodLaws.{end_of}
use Rattle.ranked_blocks.specs.Ranked.{kept_of}
use Rattle.ranked_blocks.specs.declared.entries.Ranks.{Ranks}
use Rattle.ranked_writer.specs.Tables.{Keeps}
use Rattle.ranked_writer.proofs.Parts.{pair_parts, outputs_long, outputs_agree}
use Rattle.ranked_writer.proofs.list.pair_circuit.Goals as goal

two : {k : ℕ} → k ≡ 2 → k ≡ suc (suc (k - 2))
two {k} h = omega arith

no_rows : {k : ℕ} → k ≡ 2 → k * (k - 2) ≡ 0
no_rows {k} e = rw e refl

long : (p : Ranks) → p.candidates ≡ 2 → length (ranked_list p.candidates p.ballots p.digits)
    ≡ length (paths_to p.candidates p.ballots p.digits 0).gates + p.candidates
long p e =
    let k = p.candidates in
    let paths = (paths_to k p.ballots p.digits 0).gates in
    let outputs = output_gates (link_wire k p.ballots p.digits) (k - 2) (end_of k p.ballots p.digits 0) k in
    ap length (pair_parts k p.ballots p.digits e)
    ∙ omega (
      arith,
      length-append paths outputs,
      outputs_long k p.ballots p.digits (link_wire k p.ballots p.digits) (k - 2)
          (end_of k p.ballots p.digits 0) (two e),
    )

pub first_tables-linked-requires : goal.first_tables-linked-requires
first_tables-linked-requires c = let a = c.args in
    record {
      ranked = c.requires.ranked;
      room = room_less a.w _ _ (omega (arith, long a.p c.requires.two))
          c.requires.room;
      place = c.requires.place;
      links_long = refl;
      words_long = refl;
    }

pub output_gates-requires : goal.output_gates-requires
output_gates-requires c = let a = c.args in
    let f = c.first_tables-linked in
    record {
      room = room_after a.w a.table.now _ f.new.table f.result _ _ f.ensures.wrote
          (omega (arith, long a.p c.requires.two)) c.requires.room;
      k_least = c.requires.ranked.k_least;
      k_most = c.requires.ranked.k_most;
      long = f.ensures.links_kept.long;
      place = omega (arith, no_rows c.requires.two);
    }

outputs_are : (k n w : ℕ) (ls : List ℕ) (wire : ℕ) → k ≡ 2 → Keeps k ls (link_wire k n w) → wire ≡ end_of k n w 0
    → output_gates (kept_of ls k) (k - 2) wire k ≡ output_gates (link_wire k n w) (k - 2) (end_of k n w 0) k
outputs_are k n w ls wire h t q =
    let e = two h in
    ap (λ (x : ℕ). output_gates (kept_of ls k) (k - 2) x k) q
    ∙ outputs_agree (k - 2) (kept_of ls k) (link_wire k n w)
    (λ i j hi hj ne. t.each i j (omega arith) (omega arith) ne) (end_of k n w 0) k (omega arith)

pub returns : goal.returns
returns c = let a = c.args in
    let p = a.p in
    let k = p.candidates in
    let f = c.first_tables-linked in
    let o = c.output_gates in
    let outputs = output_gates (link_wire k p.ballots p.digits) (k - 2) (end_of k p.ballots p.digits 0) k in
    wrote_as a.w a.table.now _ _ o.new.table o.result
    (sym (pair_parts k p.ballots p.digits c.requires.two))
    (wrote_both a.w a.table.now (paths_to k p.ballots p.digits 0).gates f.new.table f.result
    outputs o.new.table o.result f.ensures.wrote
    (wrote_as f.result f.new.table _ outputs o.new.table o.result
    (outputs_are k p.ballots p.digits f.new.links f.result.wire
    c.requires.two f.ensures.links_kept
    (omega (arith, f.ensures.wrote.wires, c.requires.place)))
    o.ensures))

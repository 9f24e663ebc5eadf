-- `graded_sums::key::candidate` meets its contract: the rows, the levels of all sums, then the key.
-- Assumes nothing.
use mathlib.Core.Path.{◌≡◌, refl, ap}
use mathlib.Core.List.{List}
use Prim.Native.Nat.{ℕ, suc, ◌+◌, ◌-◌, ◌*◌}
use native.Mathlib.Nat.{suc-mul}
use native.Mathlib.Omega.{arith}
use Rattle.gate_words.specs.declared.writer.Writer.{Writer}
use Rattle.gate_words.specs.Writing.{Wrote}
use Rattle.gate_words.proofs.Writing.{room_less}
use Rattle.gate_words.proofs.Standing.{Stands, stands, stands_after, room_of, wrote_then}
use Rattle.graded_circuit.specs.declared.plan.Plan.{Plan}
use Rattle.graded_circuit.specs.Plan.{Planned}
use Rattle.graded_circuit.specs.RunningSums.{word_span, sum_size, worst_size, rows, all_levels, worst_levels}
use Rattle.graded_circuit.specs.Key.{key_words, worst_word, sums_at, worst_at, candidate, key_of, candidate_span}
use Rattle.graded_circuit.proofs.CandidateBlocks.{candidate_span_lem, RowsBefore, next_rows_block, all_levels_block, worst_levels_block, key_words_block}
use Rattle.graded_sums.proofs.Writers.{rows_there}
use Rattle.graded_sums.proofs.key.candidate.Goals as goal
use Rattle.graded_sums.proofs.key.candidate.Goals.{After-all_levels-counted, After-key_words-words, After-rows-rowed, After-worst_levels-worst}

-- the gates that are left after all levels, after the levels of the sums, and after the rows
abbrev key_gates : Plan → ℕ
key_gates p = (p.grades - 2) * word_span p + word_span p

abbrev behind_levels : Plan → ℕ
behind_levels p = worst_size p + key_gates p

abbrev behind_rows : Plan → ℕ
behind_rows p = (p.grades - 2) * sum_size p + behind_levels p

parts : (p : Plan) → Planned p → candidate_span p ≡ (p.grades - 3) * p.ballots + behind_rows p
parts p f =
    let words : p.grades - 1 ≡ suc (p.grades - 2) = omega (arith, f.d_least) in
    omega (arith, candidate_span_lem p, ap (λ (k : ℕ). k * word_span p) words, suc-mul (p.grades - 2) (word_span p))

candidate_wrote : (p : Plan) (w : Writer) (t : List ℕ) (c : ℕ) (t₁ : List ℕ) (w₁ : Writer) (t₂ : List ℕ)
    (w₂ : Writer) (t₃ : List ℕ) (w₃ : Writer) (t₄ : List ℕ) (w₄ : Writer) (t₅ : List ℕ) (w₅ : Writer)
    → Wrote w t (rows p w.wire c 0 (p.grades - 3)) t₁ w₁
    → w₁.wire ≡ sums_at p w.wire → Wrote w₁ t₁ (all_levels p w.wire w₁.wire c 0 (p.grades - 2)) t₂ w₂
    → w₂.wire ≡ worst_at p w.wire → Wrote w₂ t₂ (worst_levels p w₂.wire c) t₃ w₃
    → Wrote w₃ t₃ (key_words p w.wire w₁.wire c 0 (p.grades - 2)) t₄ w₄
    → Wrote w₄ t₄ (worst_word p w₂.wire c) t₅ w₅
    → Wrote w t (candidate p w.wire c) t₅ w₅
unfolding candidate
candidate_wrote p w t c t₁ w₁ t₂ w₂ t₃ w₃ t₄ w₄ t₅ w₅ a₁ e₁ a₂ e₂ a₃ a₄ a₅ =
    let n = w.wire in
    let d = p.grades - 2 in
    wrote_then w t _ t₄ w₄ _ _ t₅ w₅
    (wrote_then w t _ t₃ w₃ _ _ t₄ w₄
    (wrote_then w t _ t₂ w₂ _ _ t₃ w₃
    (wrote_then w t _ t₁ w₁ _ _ t₂ w₂ a₁ a₂ (ap (λ (m : ℕ). all_levels p n m c 0 d) e₁))
    a₃ (ap (λ (m : ℕ). worst_levels p m c) e₂))
    a₄ (ap (λ (m : ℕ). key_words p n m c 0 d) e₁))
    a₅ (ap (λ (m : ℕ). worst_word p m c) e₂)

pub rows-rowed-requires : goal.rows-rowed-requires
rows-rowed-requires c =
    let q = c.requires in
    record {
      planned = q.planned;
      candidate = q.candidate;
      inputs = q.inputs;
      room =
          room_less c.args.w _ (candidate_span c.args.p) (omega (arith, parts c.args.p q.planned))
          q.room;
    }

rowed : (c : After-rows-rowed) → let s = c in
    Stands c.rows-rowed.result (sums_at s.args.p s.args.w.wire) (behind_rows s.args.p)
rowed c =
    let a = c.args in
    let q = c.requires in
    stands_after a.w a.table.now _ c.rows-rowed.new.table c.rows-rowed.result _ _ _ c.rows-rowed.ensures
    (next_rows_block a.p q.planned a.w.wire a.c 0 (a.p.grades - 3) q.inputs q.candidate
    (omega (arith, q.planned.d_least))).long
    (stands a.w a.w.wire _ _ refl (omega (arith, parts a.p q.planned)) q.room)

-- all rows are before the levels
before : (p : Plan) (w w₁ : Writer) (l : ℕ) → Stands w₁ (sums_at p w.wire) l → RowsBefore p w.wire w₁.wire (0 + (p.grades - 2))
before p w w₁ l r = rows_there p w.wire w₁.wire (0 + (p.grades - 2)) (omega arith) (omega (arith, r.place))

pub all_levels-counted-requires : goal.all_levels-counted-requires
all_levels-counted-requires c =
    let q = c.requires in
    let r = rowed (goal.at.all_levels-counted-requires c).After-rows-rowed in
    record {
      part = record {
        planned = q.planned;
        candidate = q.candidate;
        inputs = q.inputs;
        room =
            room_of c.rows-rowed.result _ _ _ r (omega arith);
      };
      rows = omega (arith, r.place);
      there = omega arith;
    }

levelled : (c : After-all_levels-counted)
    → Stands c.rows-rowed.result (sums_at c.args.p c.args.w.wire) (behind_rows c.args.p)
    → let s = c in Stands c.all_levels-counted.result (worst_at s.args.p s.args.w.wire) (behind_levels s.args.p)
levelled c r =
    let a = c.args in
    let q = c.requires in
    stands_after c.rows-rowed.result c.rows-rowed.new.table _ c.all_levels-counted.new.table c.all_levels-counted.result _ _ _
    c.all_levels-counted.ensures
    (all_levels_block a.p q.planned a.w.wire c.rows-rowed.result.wire a.c 0 (a.p.grades - 2)
    q.inputs q.candidate (before a.p a.w c.rows-rowed.result _ r)).long
    r

pub worst_levels-worst-requires : goal.worst_levels-worst-requires
worst_levels-worst-requires c =
    let q = c.requires in
    let at = goal.at.worst_levels-worst-requires c in
    let l = levelled at.After-all_levels-counted (rowed at.After-rows-rowed) in
    record {
      planned = q.planned;
      candidate = q.candidate;
      inputs = omega (arith, q.inputs, l.place);
      room = room_of c.all_levels-counted.result _ _ _ l (omega arith);
    }

counted : (c : After-worst_levels-worst)
    → Stands c.all_levels-counted.result (worst_at c.args.p c.args.w.wire) (behind_levels c.args.p)
    → let s = c in Stands c.worst_levels-worst.result (key_of s.args.p s.args.w.wire) (key_gates s.args.p)
counted c l =
    let a = c.args in
    let q = c.requires in
    stands_after c.all_levels-counted.result c.all_levels-counted.new.table _ c.worst_levels-worst.new.table
    c.worst_levels-worst.result _ _ _ c.worst_levels-worst.ensures
    (worst_levels_block a.p q.planned c.all_levels-counted.result.wire a.c
    (omega (arith, q.inputs, l.place)) q.candidate).long
    l

pub key_words-words-requires : goal.key_words-words-requires
key_words-words-requires c =
    let q = c.requires in
    let at = goal.at.key_words-words-requires c in
    let r = rowed at.After-rows-rowed in
    let l = counted at.After-worst_levels-worst (levelled at.After-all_levels-counted r) in
    record {
      of = record {
        part = record {
          planned = q.planned;
          candidate = q.candidate;
          inputs = q.inputs;
          room =
              room_of c.worst_levels-worst.result _ _ _ l (omega arith);
        };
        rows = omega (arith, r.place);
        there = omega (
          arith,
          r.place,
          l.place,
        );
      };
      levels = omega (
        arith,
        r.place,
        l.place,
      );
    }

worded : (c : After-key_words-words)
    → Stands c.rows-rowed.result (sums_at c.args.p c.args.w.wire) (behind_rows c.args.p)
    → Stands c.worst_levels-worst.result (key_of c.args.p c.args.w.wire) (key_gates c.args.p)
    → let s = c in Stands c.key_words-words.result (key_of s.args.p s.args.w.wire + (s.args.p.grades - 2)
    * word_span s.args.p) (word_span s.args.p)
worded c r l =
    let a = c.args in
    let q = c.requires in
    stands_after c.worst_levels-worst.result c.worst_levels-worst.new.table _ c.key_words-words.new.table
    c.key_words-words.result _ _ _ c.key_words-words.ensures
    (key_words_block a.p q.planned c.worst_levels-worst.result.wire a.w.wire c.rows-rowed.result.wire a.c
    0 (a.p.grades - 2) q.inputs q.candidate (before a.p a.w c.rows-rowed.result _ r)
    (omega (
      arith,
      r.place,
      l.place,
    ))).long
    l

pub worst_word-requires : goal.worst_word-requires
worst_word-requires c =
    let q = c.requires in
    let at = goal.at.worst_word-requires c in
    let r = rowed at.After-rows-rowed in
    let l = levelled at.After-all_levels-counted r in
    let k = worded at.After-key_words-words r (counted at.After-worst_levels-worst l) in
    record {
      part = record {
        planned = q.planned;
        candidate = q.candidate;
        inputs =
            omega (arith, q.inputs, l.place);
        room = k.left;
      };
      levels = omega (
        arith,
        l.place,
        k.place,
      );
    }

pub returns : goal.returns
returns c =
    let v = c.worst_word in
    let a = c.args in
    let at = goal.at.returns c in
    let r = rowed at.After-rows-rowed in
    candidate_wrote a.p a.w a.table.now a.c c.rows-rowed.new.table c.rows-rowed.result
    c.all_levels-counted.new.table c.all_levels-counted.result c.worst_levels-worst.new.table c.worst_levels-worst.result
    c.key_words-words.new.table c.key_words-words.result v.new.table v.result
    c.rows-rowed.ensures
    r.place
    c.all_levels-counted.ensures (levelled at.After-all_levels-counted r).place
    c.worst_levels-worst.ensures
    c.key_words-words.ensures v.ensures

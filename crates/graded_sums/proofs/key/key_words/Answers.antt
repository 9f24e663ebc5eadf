-- `graded_sums::key::key_words` meets its contract: after each word, writing the words left completes the block.
-- Assumes nothing.
use mathlib.Core.Path.{◌≡◌, sym, ap, subst}
use Prim.Native.Nat.{ℕ, suc, ◌+◌, ◌-◌, ◌*◌, ◌≤◌, ◌<◌}
use native.Mathlib.Nat.{suc-mul, mul-le-mul_right}
use native.Mathlib.Numerals.{add-one}
use native.Mathlib.Omega.{arith}
use Rattle.basics.proofs.Arithmetic.{one_less}
use Rattle.gate_words.proofs.Going.{goes_turn, goes_room_for, goes_done}
use Rattle.graded_circuit.specs.declared.plan.Plan.{Plan}
use Rattle.graded_circuit.specs.RunningSums.{word_span, sum_size, sum_levels_from}
use Rattle.graded_circuit.proofs.PlanFacts.{first_countable}
use Rattle.graded_circuit.proofs.CandidateBlocks.{RowsBefore, key_words_block}
use Rattle.graded_sums.proofs.Writers.{words_turn, words_end, rows_there, size_most}
use Rattle.graded_sums.proofs.key.key_words.Goals as goal

pub count_size-size-requires : goal.count_size-size-requires
count_size-size-requires c =
    let f = c.requires.of.part.planned in
    record { few = omega (arith, f.n_most); small = omega (arith, size_most c.args.p f); countable = first_countable c.args.p f }

-- in a turn, the levels of this grade are written
levels_there : (p : Plan) (m base g end : ℕ) → g < p.grades - 2 → base ≡ sum_levels_from p m g
    → sum_levels_from p m (p.grades - 2) ≤ end → base + sum_size p ≤ end
levels_there p m base g end h e l =
    omega (
      arith,
      suc-mul g (sum_size p),
      mul-le-mul_right {m = suc g} {n = p.grades - 2} (sum_size p) (omega arith),
    )

pub overflow_add-base : goal.overflow_add-base
overflow_add-base c =
    let l = c.loop-g in
    omega (
      arith,
      levels_there c.args.p c.args.m l.base l.g c.args.w.wire c.loop-g-test.true l.invariant.0 c.requires.levels,
      c.requires.of.part.room.small,
      c.count_size-size.ensures,
    )

pub key_word-next-requires : goal.key_word-next-requires
key_word-next-requires c =
    let l = c.loop-g in
    let a = c.args in
    let p = a.p in
    let q = c.requires.of in
    let f = q.part.planned in
    let t = c.loop-g-test.true in
    let left = p.grades - 2 - l.g in
    let all : l.g + left ≡ p.grades - 2 = omega arith in
    let every : 0 + (p.grades - 2) ≡ p.grades - 2 = omega arith in
    let before : (u : ℕ) → u ≤ p.grades - 2 → RowsBefore p a.n a.m u = λ u few. rows_there p a.n a.m u few q.rows in
    let there = levels_there p a.m l.base l.g a.w.wire t l.invariant.0 c.requires.levels in
    let end : sum_levels_from p a.m (p.grades - 2) ≤ l.next.wire = omega (arith, c.requires.levels, l.invariant.1) in
    record {
      of = record {
        part = record {
          planned = f;
          candidate = q.part.candidate;
          inputs = q.part.inputs;
          room = goes_room_for l.invariant.2
              (omega (
                arith,
                (key_words_block p f l.next.wire a.n a.m a.c l.g left q.part.inputs
                    q.part.candidate (before (l.g + left) (omega arith))
                    (subst (λ (k : ℕ). sum_levels_from p a.m k ≤ l.next.wire) (sym all) end)).long,
                one_less left (word_span p) (omega arith),
              ))
              (omega (
                arith,
                (key_words_block p f l.next.wire a.n a.m a.c 0 (p.grades - 2)
                    q.part.inputs q.part.candidate (before (0 + (p.grades - 2)) (omega arith))
                    (subst (λ (k : ℕ). sum_levels_from p a.m k ≤ l.next.wire) (sym every) end)).long,
              ))
              q.part.room;
        };
        grade = omega arith;
        row = omega (arith, l.invariant.0, before (suc l.g) (omega arith) l.g (omega arith));
        there = omega (arith, there, l.invariant.1);
      };
      levels = omega (arith, there, l.invariant.1);
    }

pub loop-g-preserved : goal.loop-g-preserved
loop-g-preserved c =
    let h = c.key_word-next in
    let l = c.loop-g in
    let a = c.args in
    let p = a.p in
    let t = c.loop-g-test.true in (
      omega (
        arith,
        l.invariant.0,
        c.count_size-size.ensures,
        ap (λ (k : ℕ). k * sum_size p)
            (add-one l.g),
        suc-mul l.g (sum_size p),
      ),
      omega (arith, l.invariant.1, h.ensures.wires),
      goes_turn (words_turn p a.n a.c a.m l.g l.base t l.invariant.0) l.invariant.2 h.ensures,
    )

pub returns : goal.returns
returns c =
    let l = c.loop-g in
    let a = c.args in
    goes_done l.invariant.2 (words_end a.p a.n a.c a.m l.g (a.p.grades - 2) (omega (arith, c.loop-g-test.false)))

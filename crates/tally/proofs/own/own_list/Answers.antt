-- The writer of the shape's kind writes its list.
use mathlib.Core.Path.{◌∙◌, sym, subst}
use mathlib.Core.List.{List}
use Prim.Native.Nat.{ℕ}
use native.Mathlib.Omega.{arith}
use Rattle.gates.specs.Gate.{Gate}
use Rattle.gate_words.specs.Writing.{Wrote}
use Rattle.gate_words.specs.declared.writer.Writer.{Writer}
use Rattle.jury.specs.Shape.{graded_limits, within_limits, ballot_bytes}
use Rattle.basics.proofs.Flags.{T_true, true_T}
use Rattle.jury.proofs.Limits.{Ranked, ranked, ranked_bytes, graded_kind, ranked_kind}
use Rattle.ranked_circuit.specs.OwnRanking.{own_ranking}
use Rattle.tally.proofs.OwnList.{own_graded, own_ranked}
use Rattle.tally.proofs.own.own_list.Goals as goal
use Rattle.tally.proofs.own.own_list.Goals.{Then-is_ranking}

-- the writer that starts a list with this many inputs
first : ℕ → Writer
first inputs = record { gate = 0; wire = inputs; conditional = 0 }

-- the numbers of the shape are within the limits of a ranking
ranks : (c : Then-is_ranking) → Ranked c.args.shape
ranks c =
    let s = c.args.shape in
    ranked s (ranked_kind s (T_true (within_limits s) c.requires) (sym c.is_ranking.ensures ∙ c.if-is_ranking.true))

pub overflow_cast-shape : goal.overflow_cast-shape
overflow_cast-shape c = omega (arith, (ranks (goal.at.overflow_cast-shape c).Then-is_ranking).k_most)

pub overflow_cast-shape-then-is_ranking : goal.overflow_cast-shape-then-is_ranking
overflow_cast-shape-then-is_ranking c = omega (arith, (ranks (goal.at.overflow_cast-shape-then-is_ranking c).Then-is_ranking).n_most)

pub ranked_list-requires : goal.ranked_list-requires
ranked_list-requires c =
    let r = ranks (goal.at.ranked_list-requires c).Then-is_ranking in
    record {
      k_least = r.k_least;
      k_most = r.k_most;
      n_least = r.n_least;
      n_most = r.n_most;
    }

pub own_list-requires : goal.own_list-requires
own_list-requires c =
    let s = c.args.shape in
    true_T (graded_limits s)
    (graded_kind s (T_true (within_limits s) c.requires) (sym c.is_ranking.ensures ∙ c.if-is_ranking.false))

pub returns-then-is_ranking : goal.returns-then-is_ranking
unfolding first
returns-then-is_ranking c =
    let a = c.args in
    let e = c.ranked_list in
    let ranking = sym c.is_ranking.ensures ∙ c.if-is_ranking.true in
    subst (λ (gs : List Gate). Wrote (first (ballot_bytes a.shape)) a.table.now gs e.new.table e.result)
    (sym (own_ranked a.shape ranking))
    (subst (λ (i : ℕ). Wrote (first i) a.table.now (own_ranking a.shape.candidates a.shape.ballots) e.new.table e.result)
    (sym (ranked_bytes a.shape ranking)) e.ensures)

pub returns-else-is_ranking : goal.returns-else-is_ranking
unfolding first
returns-else-is_ranking c =
    let a = c.args in
    let e = c.own_list in
    subst (λ (gs : List Gate). Wrote (first (ballot_bytes a.shape)) a.table.now gs e.new.table e.result)
    (sym (own_graded a.shape (sym c.is_ranking.ensures ∙ c.if-is_ranking.false))) e.ensures

-- `c_tally::write::jugy_write` meets its contract: if the answer array is long enough, it answers what the entry
-- point does.
use Rattle.std.specs.Prelude.{Err}
use Rattle.jury.specs.declared.reason.Refusal.{Refusal}
use mathlib.Core.Path.{◌∙◌, sym, ap}
use mathlib.Core.List.{List, [], ◌∷◌}
use Prim.Native.Nat.{ℕ}
use Rattle.jury.specs.declared.shape.Shape.{Shape}
use Rattle.jury.specs.Shape.{within_limits}
use Rattle.jury.specs.Reason.{reason_of, reason_at}
use Rattle.basics.proofs.Flags.{T_true}
use Rattle.jury.proofs.Constructed.{shape_is, outside_is}
use Rattle.tally.specs.Answer.{outcome_of}
use Rattle.tally.specs.Write.{write_outcome, write_result}
use Rattle.tally.proofs.OwnList.{own_list_holds}
use Rattle.tally.proofs.Writing.{write_refused, outside as outside_write}
use Rattle.c_answers.specs.Numbers.{shape_of, size_numbers}
use Rattle.c_answers.proofs.Answering.{short_call, put_call}
use Rattle.c_tally.proofs.write.jugy_write.Goals as goal

pub returns-then-answer-lt-SIZE_ANSWER : goal.returns-then-answer-lt-SIZE_ANSWER
unfolding shape_of
returns-then-answer-lt-SIZE_ANSWER c =
    let a = c.args in
    let s = shape_of a.candidates a.grades a.ballots in
    record {
      leaves = short_call 4 a.answer.now c.if-answer-lt-SIZE_ANSWER.true (size_numbers (write_outcome s a.table.now))
          (a.table.now ∷ []) (write_result s a.table.now ∷ []);
      holds = λ t. own_list_holds s (T_true (within_limits s) t);
    }

pub returns-in-Err : goal.returns-in-Err
unfolding shape_of outcome_of reason_of
returns-in-Err c =
    let a = c.args in
    let s = shape_of a.candidates a.grades a.ballots in
    let outside = outside_is (within_limits s) s c.in-Err.reason (sym c.in-Err.ensures.result) in
    let refusal = write_refused s a.table.now (reason_at 1 0) (outside_write s a.table.now outside.0) in
    record {
      leaves = put_call 4 a.answer.now c.if-answer-lt-SIZE_ANSWER.false (size_numbers (write_outcome s a.table.now)) _ _ _
          c.put_size.ensures
          (ap (λ (q : Refusal). size_numbers (outcome_of (Err q))) outside.1 ∙ ap size_numbers (sym refusal.0))
          (a.table.now ∷ []) (write_result s a.table.now ∷ []) _
          (ap (λ (z : List ℕ). z ∷ []) (sym refusal.1));
      holds = λ t. own_list_holds s (T_true (within_limits s) t);
    }

pub returns : goal.returns
unfolding shape_of
returns c =
    let a = c.args in
    let s = shape_of a.candidates a.grades a.ballots in
    let same = shape_is (within_limits s) s c.in-Ok.shape (sym c.in-Ok.ensures.result) in
    let wrote = c.write-outcome.ensures in
    record {
      leaves = put_call 4 a.answer.now c.if-answer-lt-SIZE_ANSWER.false (size_numbers (write_outcome s a.table.now)) _ _ _
          c.put_size-2.ensures
          (ap size_numbers (wrote.answers ∙ ap (λ (z : Shape). write_outcome z a.table.now) same))
          (a.table.now ∷ []) (write_result s a.table.now ∷ []) _
          (ap (λ (z : List ℕ). z ∷ []) (wrote.leaves ∙ ap (λ (z : Shape). write_result z a.table.now) same));
      holds = λ t. own_list_holds s (T_true (within_limits s) t);
    }

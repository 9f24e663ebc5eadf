-- `c_dispatch::by_rounds::jugy_dispatch` meets its contract: if the answer array is long enough, it answers what the
-- dispatcher does.
use mathlib.Core.Path.{◌∙◌, ap}
use mathlib.Core.List.{List, [], ◌∷◌}
use Rattle.dispatch_rounds.specs.declared.header.JuryHeader.{JuryHeader}
use Rattle.dispatch_rounds.specs.Tables.{tables_of}
use Rattle.dispatch.specs.Call.{Call}
use Rattle.dispatch.specs.Result.{DispatchResult, dispatch_result}
use Rattle.c_dispatch.specs.Numbers.{headers_in, dispatch_numbers, dispatch_answer}
use Rattle.c_answers.proofs.Answering.{short_call, put_call}
use Rattle.c_dispatch.proofs.Putting.{rounds_as}
use Rattle.c_dispatch.proofs.by_rounds.jugy_dispatch.Goals as goal
use Rattle.c_dispatch.proofs.by_rounds.jugy_dispatch.Goals.{Start}

-- This call with these headers, by its other arguments at the start.
abbrev with_headers : Start → List JuryHeader → Call
with_headers s headers =
    let a = s.args in
    record {
      count = a.count;
      headers = headers;
      gates_per_round = a.gates_per_round;
      tables = tables_of a.lists.now a.ballots.now a.tapes.now a.wires.now a.boards.now;
    }

abbrev call : Start → Call
call s = with_headers s (headers_in s.args.headers.now)

pub returns-then-answer-lt-DISPATCH_ANSWER : goal.returns-then-answer-lt-DISPATCH_ANSWER
returns-then-answer-lt-DISPATCH_ANSWER c =
    let of = call (goal.at.returns-then-answer-lt-DISPATCH_ANSWER c).Start in
    let r = dispatch_result of in
    short_call dispatch_answer c.args.answer.now c.if-answer-lt-DISPATCH_ANSWER.true (dispatch_numbers r)
    (of.tables.wires ∷ of.tables.boards ∷ []) (r.wires ∷ r.boards ∷ [])

pub returns : goal.returns
returns c =
    let start = (goal.at.returns c).Start in
    let of = call start in
    let r = dispatch_result of in
    let left = c.dispatch-outcome.ensures
    ∙ ap (λ (z : List JuryHeader). dispatch_result (with_headers start z)) c.headers_in.ensures in
    put_call dispatch_answer start.args.answer.now c.if-answer-lt-DISPATCH_ANSWER.false (dispatch_numbers r) _ _ _
    c.put.ensures (rounds_as c.dispatch-outcome.result ∙ ap dispatch_numbers left)
    (of.tables.wires ∷ of.tables.boards ∷ []) (r.wires ∷ r.boards ∷ []) _
    (ap (λ (z : DispatchResult). z.wires ∷ z.boards ∷ []) left)

-- `dispatch::dispatch::longest_list` meets its contract: a turn takes the next header from the rest.
use Rattle.std.proofs.Common.{◌≡◌, ap, ℕ, [], suc, max, drop, drop-cons, drop_of_length-le, get_or, add-one, arith}
use Rattle.dispatch_rounds.proofs.Turns.{blank}
use Rattle.dispatch.specs.inner.Rounds.{longest_list}
use Rattle.dispatch.proofs.Whole.{most_first, most_none}
use Rattle.dispatch.proofs.dispatch.longest_list.Goals as goal

pub loop-header-preserved : goal.loop-header-preserved
loop-header-preserved c =
    let ss = c.args.headers.now in
    let i = c.loop-header.header-index in
    let larger : c.max-most.result ≡ max c.loop-header.most (get_or ss i blank).gates = c.max-most.ensures in
    omega (
      arith,
      larger,
      ap longest_list (drop-cons ss i blank c.loop-header-test.true),
      most_first (get_or ss i blank) (drop (suc i) ss),
      ap (λ (n : ℕ). longest_list (drop n ss)) (add-one i),
      c.loop-header.invariant,
    )

pub returns : goal.returns
returns c =
    let none_left : drop c.loop-header.header-index c.args.headers.now ≡ [] =
    drop_of_length-le c.args.headers.now {i = c.loop-header.header-index} (omega arith) in
    omega (arith, ap longest_list none_left, most_none, c.loop-header.invariant)

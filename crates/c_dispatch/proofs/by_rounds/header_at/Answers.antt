-- `c_dispatch::by_rounds::header_at` meets its contract, number by number.
use Rattle.c_dispatch.specs.Numbers.{header_at}
use Rattle.c_dispatch.proofs.by_rounds.header_at.Goals as goal

pub returns : goal.returns
unfolding header_at
returns c =
    let k = c.number_at.ensures in
    let d = c.number_at-2.ensures in
    let n = c.number_at-3.ensures in
    let g = c.number_at-4.ensures in
    λ x. record { candidates = k x; grades = d x; ballots = n x; gates = g x }

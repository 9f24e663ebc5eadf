-- `trustee_gates::dealing::adds_up` meets its contract: the parts of the bytes before x add up.
-- Assumes nothing.
use mathlib.Core.Path.{◌≡◌}
use mathlib.Core.Bool.{true}
use lib.Dec.{eqb}
use lib.ListN.{length, get_or}
use Rattle.trustee_shares.specs.Shares.{opened, part}
use Rattle.trustee_shares.specs.Views.{piece}
use Rattle.basics.specs.Below.{all_below}
use Rattle.trustee_gates.proofs.dealing.adds_up.Given as goal

abbrev pub invariant-loop-x : goal.invariant-loop-x
invariant-loop-x l = true ≡ all_below l.x (λ y. eqb (opened l.t (λ p. part (piece (length l.ballots) l.parts p) y)) (get_or l.ballots y 0))

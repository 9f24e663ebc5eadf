-- `trustee_gates::dealing::products_add_up` meets its contract: the parts of the products before i add up.
-- Assumes nothing.
use mathlib.Core.Path.{◌≡◌}
use mathlib.Core.Bool.{true}
use Prim.Native.Nat.{◌*◌}
use Rattle.trustee_shares.specs.Views.{piece}
use Rattle.basics.specs.Below.{all_below}
use Rattle.trustee_gates.specs.Dealing.{product_adds_up}
use Rattle.trustee_gates.proofs.dealing.products_add_up.Given as goal

abbrev pub invariant-loop-i : goal.invariant-loop-i
invariant-loop-i l = true ≡ all_below l.i (product_adds_up l.t (piece (3 * l.conditional) l.triples))

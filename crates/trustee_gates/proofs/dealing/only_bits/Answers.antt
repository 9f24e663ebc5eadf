-- `trustee_gates::dealing::only_bits` meets its contract.
-- Assumes nothing.
use mathlib.Core.Path.{◌≡◌}
use mathlib.Core.Bool.{true, false}
use borrow.Author.Rules.{rules}
use borrow.Author.Tests.{tests}
use lib.Dec.{leb}
use Rattle.std.proofs.lemmas.Iterator.{cases_from_all, YieldsList-from_slice}
use Rattle.trustee_gates.specs.Dealing.{only_bits}
use Rattle.trustee_gates.proofs.Tests.{all_of_list}
use Rattle.trustee_gates.proofs.dealing.only_bits.Goals as goal

pub returns : goal.returns
unfolding only_bits
returns c =
    all_of_list (λ x. leb x 1) c.args.parts.now _ (cases_from_all _ _ _ (λ x. leb x 1 ≡ true) (λ x. leb x 1 ≡ false) c.all.ensures.ran
    (YieldsList-from_slice c.args.parts.now cc) (λ x q k. search (rules, tests)) (λ x q k. search (rules, tests)))

-- `urn_chains::walk::is_zero` meets its contract: all bytes are 0 if none of another value is counted.
-- Assumes nothing.
use Rattle.std.proofs.Common.{◌∙◌, ap, List, ℕ}
use Rattle.std.proofs.lemmas.List.{take_all}
use Rattle.std.specs.Prelude.{not, eqb, count_by}
use Rattle.urn_chains.proofs.Zeros.{none_other}
use Rattle.urn_chains.proofs.walk.is_zero.Goals as goal

pub returns : goal.returns
returns c =
    let xs = c.args.bytes.now in
    c.loop-byte.invariant
    ∙ ap (λ (ys : List ℕ). eqb (count_by (λ x. not (eqb x 0)) ys) 0) (take_all c.loop-byte.byte-index xs c.loop-byte-test.false)
    ∙ none_other xs

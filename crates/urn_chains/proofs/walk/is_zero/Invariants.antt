-- `urn_chains::walk::is_zero` meets its contract: the flag says whether no byte of another value came so far.
-- Assumes nothing.
use Rattle.std.proofs.Common.{◌≡◌, take}
use Rattle.std.specs.Prelude.{not, eqb, count_by}
use Rattle.urn_chains.proofs.walk.is_zero.Given as goal

abbrev pub invariant-loop-byte : goal.invariant-loop-byte
invariant-loop-byte l = l.zero ≡ eqb (count_by (λ x. not (eqb x 0)) (take l.byte-index l.bytes)) 0

-- `trustee_gates::gate::product_part` meets its contract: it reads the trustee's three bits of the triple.
-- Assumes nothing.
use mathlib.Core.Path.{sym}
use Rattle.trustee_shares.specs.Shares.{part, u_of, v_of, product_of, product_part}
use Rattle.trustee_gates.proofs.gate.product_part.Goals as goal

pub returns : goal.returns
unfolding product_part u_of v_of product_of part
returns c = rw (
  sym c.entry-u.ensures,
  sym c.entry-v.ensures,
  sym c.entry-product.ensures,
) c.product_bit.ensures

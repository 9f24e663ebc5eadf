-- `trustee_rounds::part::product` meets its contract: it reads the trustee's triple and the two sums.
-- Assumes nothing.
use Rattle.trustee_shares.specs.Shares.{part, u_of, v_of, product_of, product_part}
use Rattle.trustee_rounds.proofs.part.product.Goals as goal

pub returns : goal.returns
unfolding part product_part u_of v_of product_of
returns c = c.product_bit.ensures

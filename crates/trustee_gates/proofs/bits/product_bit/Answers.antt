-- `trustee_gates::bits::product_bit` meets its contract: each sum may be taken modulo 2 by itself.
-- Assumes nothing.
use Prim.Native.Nat.{◌*◌}
use Rattle.trustee_gates.proofs.Parity.{product_sum}
use Rattle.trustee_gates.proofs.bits.product_bit.Goals as goal

pub returns : goal.returns
returns c = let a = c.args in
    product_sum a.p a.product (a.first * a.v) (a.second * a.u) (a.first * a.second) c.times.result
    c.times-2.result c.times-3.result c.enter_once.result c.plus-triples.result c.plus-masked.result
    c.plus.result
    c.times.ensures c.times-2.ensures c.times-3.ensures c.plus-triples.ensures c.plus-masked.ensures
    c.enter_once.ensures c.plus.ensures

-- `rehearsal::tape` meets its contract: a tape of zeros is a tape of bits.
use Rattle.std.proofs.Common.{refl, ℕ, zero, suc, ◌≤◌, get_or, replicate, arith}
use Rattle.rehearsal.proofs.tape.Goals as goal

zero_bits : (n i : ℕ) → get_or (replicate n 0) i 0 ≤ 1
zero_bits zero i = omega arith
zero_bits (suc n) zero = omega arith
zero_bits (suc n) (suc i) = zero_bits n i

pub returns : goal.returns
returns c = record { long = refl; zeros = refl; bits = zero_bits 4000 }

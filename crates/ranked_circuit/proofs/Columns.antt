-- The number of ones that a counter of the circuit counts is the number of ballots that put one candidate before
-- another.
-- Assumes nothing.
use mathlib.Core.Path.{◌≡◌, ◌∙◌, ap}
use mathlib.Core.List.{List}
use Prim.Native.Nat.{ℕ, zero, suc, ◌+◌, ◌*◌, ◌≤◌, ◌<◌}
use native.Mathlib.Nat.{zero-mul, suc-mul}
use native.Mathlib.Omega.{arith}
use lib.ListN.{get_or}
use Rattle.gate_words.specs.Word.{ones_at}
use Rattle.gate_words.proofs.Laws.{ones_none, ones_more}
use Rattle.jury.specs.Rankings.{rank_place, before}
use Rattle.rule_schulze.specs.Votes.{votes}
use Rattle.rule_schulze.proofs.Tables.{place_within}
use Rattle.jury.proofs.CountLaws.{bit_added}

-- the last of the wires that are counted
ones_last : (W : ℕ → ℕ) (at d m : ℕ) → ones_at W at d (suc m) ≡ ones_at W at d m + W (at + m * d)
ones_last W at d zero =
    let e : at + 0 * d ≡ at = omega (arith, zero-mul d) in
    omega (arith, ones_more W at d 0, ones_none W (at + d) d, ones_none W at d, ap W e)
ones_last W at d (suc m) =
    let e : at + d + m * d ≡ at + suc m * d = omega (arith, suc-mul m d) in
    omega (arith, ones_more W at d (suc m), ones_more W at d m, ones_last W (at + d) d m, ap W e)

-- if the first wires are the ballots
pub column : (W : ℕ → ℕ) (xs : List ℕ) (k n i j : ℕ) → i < k → j < k → ((p : ℕ) → get_or xs p 0 ≤ 1)
    → ((p : ℕ) → p < n * k * k → W p ≡ get_or xs p 0) → ones_at W (i * k + j) (k * k) n ≡ votes k n xs i j
unfolding votes before rank_place
column W xs k zero i j hi hj bits first = ones_none W (i * k + j) (k * k)
column W xs k (suc b) i j hi hj bits first =
    let place : i * k + j + b * (k * k) ≡ (b * k + i) * k + j = omega arith in
    let low : (b * k + i) * k + j < suc b * k * k = place_within k (suc b) b i j (omega arith) hi hj in
    let fewer : b * k * k ≤ suc b * k * k = omega arith in
    let ih : ones_at W (i * k + j) (k * k) b ≡ votes k b xs i j = column W xs k b i j hi hj bits (λ p l. first p (omega arith)) in
    omega (
      arith,
      ones_last W (i * k + j) (k * k) b,
      ih,
      ap W place ∙ first ((b * k + i) * k + j) low,
      bit_added (get_or xs ((b * k + i) * k + j) 0) (bits ((b * k + i) * k + j)),
    )

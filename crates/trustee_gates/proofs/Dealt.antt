-- A dealing passes its tests exactly if it is a good dealing.
-- Assumes nothing.
use mathlib.Core.Path.{◌≡◌, refl, sym}
use mathlib.Core.Bool.{Bool, true, false, ◌&&◌}
use mathlib.Core.List.{List}
use Prim.Native.Nat.{ℕ, ◌*◌, ◌≤◌}
use native.Mathlib.Omega.{arith}
use lib.Dec.{eqb, leb, ltb}
use lib.ListN.{length, get_or, get_or-eq_default}
use borrow.Author.Tests.{leb-true, le-leb, eqb-true, eq-eqb, ltb-true, ltb-false}
use Rattle.gates.specs.Gate.{Gate}
use Rattle.gates.specs.Board.{conditional_count, Bits}
use Rattle.trustee_shares.specs.Shares.{opened, part, u_of, v_of, product_of}
use Rattle.trustee_shares.specs.Views.{piece, Dealing, ballots_of, triples_of, GoodDealing}
use Rattle.trustee_gates.specs.Dealing.{only_bits, adds_up, product_adds_up, products_add_up, dealt_well}
use Rattle.trustee_gates.proofs.Tests.{each_passes, all_pass}

and_both : (a b : Bool) → (a && b) ≡ true → (a ≡ true) × (b ≡ true)
and_both true b e = (refl, e)
and_both false b e = let z : ◌≡◌ {A = ℕ} 0 1 = cc in absurd (omega arith)

pub only_bits_lem : (xs : List ℕ) → only_bits xs ≡ true → Bits xs
unfolding only_bits
only_bits_lem xs e i = go (ltb i (length xs)) refl
  where
    go : (b : Bool) → ltb i (length xs) ≡ b → get_or xs i 0 ≤ 1
    go true is = leb-true (get_or xs i 0) 1 (each_passes (λ j. leb (get_or xs j 0) 1) (length xs) e i (ltb-true i (length xs) is))
    go false is = let z : get_or xs i 0 ≡ 0 = get_or-eq_default xs 0 {n = i} (ltb-false i (length xs) is) in omega arith

pub only_bits_back : (xs : List ℕ) → Bits xs → only_bits xs ≡ true
unfolding only_bits
only_bits_back xs b = sym (all_pass (λ j. leb (get_or xs j 0) 1) (length xs) (λ (i : ℕ) h. le-leb (get_or xs i 0) 1 (b i)))

module _ (t : ℕ) (gs : List Gate) (xs : List ℕ) (d : Dealing) where
  pub dealt_good : length d.ballot_parts ≡ t * length xs → length d.dealer_parts ≡ t * (3 * conditional_count gs)
      → dealt_well t (conditional_count gs) xs d ≡ true → GoodDealing t gs xs d
  unfolding dealt_well adds_up products_add_up product_adds_up ballots_of triples_of
  dealt_good lb ld e =
      let n = length xs in
      let C = conditional_count gs in
      let s = and_both (only_bits d.ballot_parts && only_bits d.dealer_parts && adds_up t xs d.ballot_parts)
      (products_add_up t C d.dealer_parts) e in
      let r = and_both (only_bits d.ballot_parts && only_bits d.dealer_parts) (adds_up t xs d.ballot_parts) s.0 in
      let q = and_both (only_bits d.ballot_parts) (only_bits d.dealer_parts) r.0 in
      let U : ℕ → ℕ = λ i. opened t (λ p. u_of (piece (3 * C) d.dealer_parts p) i) in
      let V' : ℕ → ℕ = λ i. opened t (λ p. v_of (piece (3 * C) d.dealer_parts p) i) in
      let W : ℕ → ℕ = λ i. opened t (λ p. product_of (piece (3 * C) d.dealer_parts p) i) in
      let X : ℕ → ℕ = λ x. opened t (λ p. part (piece n d.ballot_parts p) x) in
      record {
        ballot_size = lb;
        dealer_size = ld;
        ballot_bits = only_bits_lem d.ballot_parts q.0;
        dealer_bits = only_bits_lem d.dealer_parts q.1;
        ballot_sums = λ (x : ℕ) h. eqb-true (X x) (get_or xs x 0) (each_passes (λ y. eqb (X y) (get_or xs y 0)) n r.1 x h);
        products = λ (i : ℕ) h. eqb-true (W i) (U i * V' i) (each_passes (λ j. eqb (W j) (U j * V' j)) C s.1 i h);
      }

  pub good_dealt : GoodDealing t gs xs d → dealt_well t (conditional_count gs) xs d ≡ true
  unfolding dealt_well adds_up products_add_up product_adds_up ballots_of triples_of
  good_dealt g =
      let n = length xs in
      let C = conditional_count gs in
      let U : ℕ → ℕ = λ i. opened t (λ p. u_of (piece (3 * C) d.dealer_parts p) i) in
      let V' : ℕ → ℕ = λ i. opened t (λ p. v_of (piece (3 * C) d.dealer_parts p) i) in
      let W : ℕ → ℕ = λ i. opened t (λ p. product_of (piece (3 * C) d.dealer_parts p) i) in
      let X : ℕ → ℕ = λ x. opened t (λ p. part (piece n d.ballot_parts p) x) in
      let a = all_pass (λ y. eqb (X y) (get_or xs y 0)) n (λ (x : ℕ) h. eq-eqb (X x) (get_or xs x 0) (g.ballot_sums x h)) in
      let b = all_pass (λ j. eqb (W j) (U j * V' j)) C (λ (i : ℕ) h. eq-eqb (W i) (U i * V' i) (g.products i h)) in
      rw (only_bits_back d.ballot_parts g.ballot_bits, only_bits_back d.dealer_parts g.dealer_bits, sym a, sym b)

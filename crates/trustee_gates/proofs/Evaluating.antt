-- The whole evaluation: inputs, gates, closing bits.
-- Assumes nothing.
use mathlib.Core.Path.{◌≡◌, ◌∙◌, sym, ap}
use mathlib.Core.List.{List, ◌++◌, append-nil}
use Prim.Native.Nat.{ℕ, ◌+◌, ◌-◌, ◌*◌, ◌≤◌, ◌<◌}
use native.Mathlib.Omega.{arith}
use lib.ListN.{length, take, drop, length-take, length-drop, drop_of_length-le}
use lib.Seq.{take_all, take_at, sets, sets-eq, length-sets}
use Rattle.gates.specs.Gate.{Gate}
use Rattle.gates.specs.Board.{conditional_count}
use Rattle.trustee_shares.specs.Shares.{Held, parts_of}
use Rattle.trustee_shares.specs.Views.{piece, joined, Dealing, ballots_of, triples_of, wire_parts_of, masked_factors, closing_parts, published_of}
use Rattle.trustee_shares.proofs.Tables.{length_piece, length_joined, piece_joined, whole_table, joined_cong}
use Rattle.trustee_shares.proofs.Publishing.{length_masked}
use Rattle.trustee_gates.specs.inner.Tables.{each_puts}
use Rattle.trustee_gates.proofs.Puts.{length_puts, puts_at}
use Rattle.trustee_gates.proofs.Running.{parts_cong, length_parts}

-- entries that are stored at the start are the first entries
take_sets : (l vs : List ℕ) (n : ℕ) → length vs ≡ n → n ≤ length l → take n (sets l 0 vs) ≡ vs
take_sets l vs n e h = ap (take n) (sets-eq vs l 0 (omega arith)) ∙ take_at vs (drop (0 + length vs) l) n e

-- storing entries at the start, and then others after them up to the end
sets_both : (l us vs : List ℕ) (m : ℕ) → length us ≡ m → m + length vs ≡ length l → sets (sets l 0 us) m vs ≡ us ++ vs
sets_both l us vs m e h =
    let r = sets l 0 us in
    let long : length r ≡ length l = length-sets l 0 us in
    sets-eq vs r m (omega arith)
    ∙ ap (λ (z : List ℕ). z ++ vs ++ drop (m + length vs) r) (take_sets l us m e (omega arith))
    ∙ ap (λ (z : List ℕ). us ++ vs ++ z) (drop_of_length-le r {i = m + length vs} (omega arith)) ∙ append-nil (us ++ vs)

module _ (t inputs : ℕ) (gs : List Gate) (k : ℕ) (d : Dealing) (ws published : List ℕ) (size_w size_p C : ℕ)
    (count : C ≡ conditional_count gs) (size_is : size_w ≡ inputs + length gs) (enough : k ≤ length gs)
    (published_is : size_p ≡ 2 * C + k) (ballot_length : length d.ballot_parts ≡ t * inputs)
    (wires_length : length ws ≡ t * size_w) (published_length : length published ≡ t * size_p) where
  -- the wire parts after the inputs are copied
  module _ (ws₁ : List ℕ) (e₁ : ws₁ ≡ each_puts t size_w 0 (λ p. take inputs (drop 0 (piece inputs d.ballot_parts p))) ws) where
    ballot_long : (p : ℕ) → p < t → length (piece inputs d.ballot_parts p) ≡ inputs
    ballot_long p h = length_piece t inputs d.ballot_parts p ballot_length h

    pub copied_long : length ws₁ ≡ t * size_w
    copied_long = ap length e₁ ∙ length_puts t size_w 0 (λ p. take inputs (drop 0 (piece inputs d.ballot_parts p))) ws ∙ wires_length

    inputs_there : (p : ℕ) → p < t → take inputs (piece size_w ws₁ p) ≡ ballots_of inputs d p
    unfolding ballots_of
    inputs_there p h =
        let xs = piece inputs d.ballot_parts p in
        let all : take inputs xs ≡ xs = take_all inputs xs (omega (arith, ballot_long p h)) in
        ap (λ (l : List ℕ). take inputs (piece size_w l p)) e₁
        ∙ ap (take inputs) (puts_at size_w 0 (λ q. take inputs (drop 0 (piece inputs d.ballot_parts q))) ws t p h
        (λ (q : ℕ) l. omega (arith, length-take inputs (piece inputs d.ballot_parts q))))
        ∙ take_sets (piece size_w ws p) (take inputs xs) inputs (ap length all ∙ ballot_long p h)
        (omega (arith, length_piece t size_w ws p wires_length h)) ∙ all

    parts_are : (p : ℕ) → p < t → parts_of t (triples_of gs d) (λ q. take inputs (piece size_w ws₁ q)) 0 gs p ≡ wire_parts_of t inputs gs d p
    unfolding wire_parts_of
    parts_are p h = parts_cong t (triples_of gs d) gs (λ q. take inputs (piece size_w ws₁ q)) (ballots_of inputs d) 0 inputs_there p h

    parts_long : (p : ℕ) → p < t → length (wire_parts_of t inputs gs d p) ≡ size_w
    unfolding wire_parts_of ballots_of
    parts_long p h = length_parts t (triples_of gs d) gs (piece inputs d.ballot_parts) 0 inputs p (ballot_long p h) ∙ sym size_is

    -- the tables after the gates
    module _ (ws₂ published₂ : List ℕ)
        (e₂ : ws₂ ≡ joined t (parts_of t (piece (3 * C) d.dealer_parts) (λ p. take inputs (piece size_w ws₁ p)) 0 gs))
        (f₂ : published₂ ≡ joined t (λ p. sets (piece size_p published p) 0
        (masked_factors (parts_of t (piece (3 * C) d.dealer_parts) (λ q. take inputs (piece size_w ws₁ q)) 0 gs
        p) (piece (3 * C) d.dealer_parts p) 0 gs))) where
      triples_are : piece (3 * C) d.dealer_parts ≡ triples_of gs d
      unfolding triples_of
      triples_are = ap (λ (n : ℕ). piece (3 * n) d.dealer_parts) count

      pub wires_are : ws₂ ≡ joined t (wire_parts_of t inputs gs d)
      wires_are =
          e₂ ∙ ap (λ (f : Held). joined t (parts_of t f (λ p. take inputs (piece size_w ws₁ p)) 0 gs)) triples_are
          ∙ joined_cong t (parts_of t (triples_of gs d) (λ p. take inputs (piece size_w ws₁ p)) 0 gs) (wire_parts_of t inputs gs d) parts_are

      pub wires_long : length ws₂ ≡ t * size_w
      wires_long = ap length wires_are ∙ length_joined size_w (wire_parts_of t inputs gs d) t parts_long

      factors : Held
      factors = λ p. masked_factors (wire_parts_of t inputs gs d p) (triples_of gs d p) 0 gs

      factors_long : (p : ℕ) → length (factors p) ≡ 2 * C
      unfolding factors
      factors_long p = omega (arith, length_masked (wire_parts_of t inputs gs d p) (triples_of gs d p) 0 gs)

      published_are : published₂ ≡ joined t (λ p. sets (piece size_p published p) 0 (factors p))
      unfolding factors
      published_are =
          f₂ ∙ ap (λ (f : Held). joined t
          (λ p. sets (piece size_p published p) 0
          (masked_factors (parts_of t f (λ q. take inputs (piece size_w ws₁ q)) 0 gs p) (f p) 0 gs))) triples_are
          ∙ joined_cong t (λ p. sets (piece size_p published p) 0
          (masked_factors (parts_of t (triples_of gs d) (λ q. take inputs (piece size_w ws₁ q)) 0 gs p) (triples_of gs d p) 0
          gs))
          (λ p. sets (piece size_p published p) 0 (masked_factors (wire_parts_of t inputs gs d p) (triples_of gs d p) 0 gs))
          (λ (p : ℕ) h. ap (λ (l : List ℕ). sets (piece size_p published p) 0 (masked_factors l (triples_of gs d p) 0 gs)) (parts_are p h))

      piece_long : (p : ℕ) → p < t → length (piece size_p published p) ≡ size_p
      piece_long p h = length_piece t size_p published p published_length h

      set_long : (p : ℕ) → p < t → length (sets (piece size_p published p) 0 (factors p)) ≡ size_p
      set_long p h = length-sets (piece size_p published p) 0 (factors p) ∙ piece_long p h

      pub published_long : length published₂ ≡ t * size_p
      published_long = ap length published_are ∙ length_joined size_p (λ p. sets (piece size_p published p) 0 (factors p)) t set_long

      -- the closing bits come after the factors
      closing_is : (p : ℕ) → p < t → take k (drop (size_w - k) (piece size_w ws₂ p)) ≡ closing_parts k (wire_parts_of t inputs gs d p)
      unfolding closing_parts
      closing_is p h =
          let parts = wire_parts_of t inputs gs d p in
          let n : size_w - k ≡ length parts - k = omega (arith, parts_long p h) in
          ap (λ (l : List ℕ). take k (drop (size_w - k) (piece size_w l p))) wires_are
          ∙ ap (λ (l : List ℕ). take k (drop (size_w - k) l)) (piece_joined size_w (wire_parts_of t inputs gs d) t parts_long p h)
          ∙ take_all k (drop (size_w - k) parts) (omega (arith, length-drop (size_w - k) parts, parts_long p h))
          ∙ ap (λ (m : ℕ). drop m parts) n

      closing_long : (p : ℕ) → p < t → length (closing_parts k (wire_parts_of t inputs gs d p)) ≡ k
      unfolding closing_parts
      closing_long p h =
          let parts = wire_parts_of t inputs gs d p in
          omega (arith, length-drop (length parts - k) parts, parts_long p h)

      pub all_published : (published₃ : List ℕ) → published₃
          ≡ each_puts t size_p (2 * C) (λ p. take k (drop (size_w - k) (piece size_w ws₂ p))) published₂
          → published₃ ≡ joined t (published_of t inputs gs k d)
      unfolding published_of factors
      all_published published₃ e₃ =
          let entries : Held = λ p. take k (drop (size_w - k) (piece size_w ws₂ p)) in
          let long : length published₃ ≡ t * size_p = ap length e₃ ∙ length_puts t size_p (2 * C) entries published₂ ∙ published_long in
          sym (whole_table t size_p published₃ long)
          ∙ joined_cong t (piece size_p published₃) (published_of t inputs gs k d)
          (λ (p : ℕ) h.
          ap (λ (l : List ℕ). piece size_p l p) e₃
          ∙ puts_at size_p (2 * C) entries published₂ t p h
          (λ (q : ℕ) l. omega (arith, length-take k (drop (size_w - k) (piece size_w ws₂ q))))
          ∙ ap (λ (l : List ℕ). sets l (2 * C) (take k (drop (size_w - k) (piece size_w ws₂ p))))
          (ap (λ (l : List ℕ). piece size_p l p) published_are
          ∙ piece_joined size_p (λ q. sets (piece size_p published q) 0 (factors q)) t set_long p h)
          ∙ ap (λ (l : List ℕ). sets (sets (piece size_p published p) 0 (factors p)) (2 * C) l) (closing_is p h)
          ∙ sets_both (piece size_p published p) (factors p) (closing_parts k (wire_parts_of t inputs gs d p)) (2 * C)
          (factors_long p) (omega (arith, closing_long p h, piece_long p h)))

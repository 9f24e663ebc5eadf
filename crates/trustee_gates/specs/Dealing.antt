-- The tests of a dealing: reason 18 (request 2.7).
use Rattle.std.specs.Prelude.{Bool, ◌&&◌, List, ℕ, ◌*◌, eqb, leb, length, get_or}
use Rattle.trustee_shares.specs.Shares.{opened, part, u_of, v_of, product_of, Held}
use Rattle.trustee_shares.specs.Views.{piece, Dealing}
use Rattle.basics.specs.Below.{all_below}

-- All parts are 0 or 1.
unfoldable pub only_bits : List ℕ → Bool
only_bits parts = all_below (length parts) (λ i. leb (get_or parts i 0) 1)

-- The parts of each ballot byte add up to it modulo 2.
unfoldable pub adds_up : ℕ → List ℕ → List ℕ → Bool
adds_up t ballots parts = all_below (length ballots)
    (λ x. eqb (opened t (λ p. part (piece (length ballots) parts p) x)) (get_or ballots x 0))

-- The parts of the i-th product add up to the product of the bits u and v.
unfoldable pub product_adds_up : ℕ → Held → ℕ → Bool
product_adds_up t triples i = eqb (opened t (λ p. product_of (triples p) i))
    (opened t (λ p. u_of (triples p) i) * opened t (λ p. v_of (triples p) i))

-- The same for the triples of all conditional gates.
unfoldable pub products_add_up : ℕ → ℕ → List ℕ → Bool
products_add_up t conditional triples = all_below conditional (product_adds_up t (piece (3 * conditional) triples))

-- The dealing is good for these ballots and this many conditional gates: all parts are bits, and they add up.
unfoldable pub dealt_well : ℕ → ℕ → List ℕ → Dealing → Bool
dealt_well t conditional ballots d =
    only_bits d.ballot_parts && only_bits d.dealer_parts && adds_up t ballots d.ballot_parts
    && products_add_up t conditional d.dealer_parts

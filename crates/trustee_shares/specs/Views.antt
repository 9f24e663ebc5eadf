-- What trustees hold, publish and see: request 2.7.
use Rattle.std.specs.Prelude.{◌≡◌, cond, List, [], ◌∷◌, ◌++◌, ℕ, zero, suc, ◌+◌, ◌-◌, ◌*◌, ◌≤◌, ◌<◌, eqb, length, get_or, take, drop, None}
use Rattle.gates.specs.Kind.{conditional_of}
use Rattle.gates.specs.Gate.{Gate}
use Rattle.gates.specs.Wires.{wires_of, outputs_of}
use Rattle.gates.specs.Board.{conditional_count, Bits}
use Rattle.gates.specs.Test.{first_bad}
use Rattle.gates.specs.Hiding.{ExactlyOne}
use Rattle.trustee_shares.specs.Shares.{opened, part, u_of, v_of, product_of, masked_first, masked_second, Held, parts_of}

-- Trustee p's piece of a table. Tables go trustee after trustee, with pieces of one size.
unfoldable pub piece : ℕ → List ℕ → ℕ → List ℕ
piece size table p = take size (drop (p * size) table)

-- The table that the pieces of t trustees make.
unfoldable pub joined : ℕ → Held → List ℕ
joined zero pieces = []
joined (suc t) pieces = joined t pieces ++ pieces t

-- A dealing: the ballot parts, and the dealer parts (triples) for all conditional gates.
pub record Dealing : Type 0 where
  pub ballot_parts : List ℕ
  pub dealer_parts : List ℕ

-- Each trustee's parts of the inputs.
unfoldable pub ballots_of : ℕ → Dealing → Held
ballots_of inputs d = piece inputs d.ballot_parts

-- Each trustee's dealer parts for the list gs.
unfoldable pub triples_of : List Gate → Dealing → Held
triples_of gs d = piece (3 * conditional_count gs) d.dealer_parts

-- A good dealing of these inputs for a list and t trustees: the tables have the right lengths, all parts are bits,
-- the ballot parts add up to the inputs, and the parts of each triple's product add up to the product of its u and
-- v.
pub record GoodDealing (t : ℕ) (gs : List Gate) (inputs : List ℕ) (d : Dealing) : Type 0 where
  pub ballot_size : length d.ballot_parts ≡ t * length inputs
  pub dealer_size : length d.dealer_parts ≡ t * (3 * conditional_count gs)
  pub ballot_bits : Bits d.ballot_parts
  pub dealer_bits : Bits d.dealer_parts
  pub ballot_sums : (x : ℕ) → x < length inputs → opened t (λ p. part (ballots_of (length inputs) d p) x)
      ≡ get_or inputs x 0
  pub products : (i : ℕ) → i < conditional_count gs
      → opened t (λ p. product_of (triples_of gs d p) i)
      ≡ opened t (λ p. u_of (triples_of gs d p) i) * opened t (λ p. v_of (triples_of gs d p) i)

-- Each trustee's parts of all wires after a run.
unfoldable pub wire_parts_of : ℕ → ℕ → List Gate → Dealing → Held
wire_parts_of t inputs gs d = parts_of t (triples_of gs d) (ballots_of inputs d) 0 gs

-- What a trustee publishes for these gates, before which i conditional ones came: both masked factors of each
-- conditional gate. A part never changes, so the factors may be read from the parts after the run.
unfoldable pub masked_factors : List ℕ → List ℕ → ℕ → List Gate → List ℕ
masked_factors parts triples i [] = []
masked_factors parts triples i (g ∷ gs) =
    cond (conditional_of g.kind) (masked_first parts triples i g ∷ masked_second parts triples i g
    ∷ masked_factors parts triples (i + 1) gs) (masked_factors parts triples i gs)

-- A trustee's parts of the last k wires.
unfoldable pub closing_parts : ℕ → List ℕ → List ℕ
closing_parts k parts = drop (length parts - k) parts

-- All that each trustee publishes: its masked factors, then its closing bits.
unfoldable pub published_of : ℕ → ℕ → List Gate → ℕ → Dealing → Held
published_of t inputs gs k d p = masked_factors (wire_parts_of t inputs gs d p) (triples_of gs d p) 0 gs
    ++ closing_parts k (wire_parts_of t inputs gs d p)

-- The pieces of all trustees except q.
unfoldable pub others_of : ℕ → ℕ → Held → List (List ℕ)
others_of zero q pieces = []
others_of (suc t) q pieces = others_of t q pieces ++ cond (eqb t q) [] (pieces t ∷ [])

-- All that the trustees except q hold and see: their ballot parts, dealer parts and wire parts, and every published
-- bit, q's included. The plain ballots are no part of it.
pub record View : Type 0 where
  pub ballot_parts : List (List ℕ)
  pub dealer_parts : List (List ℕ)
  pub wire_parts : List (List ℕ)
  pub published : List ℕ

-- The view of the trustees except q, in a run of the list gs with t trustees and this dealing.
unfoldable pub view_of : ℕ → ℕ → ℕ → List Gate → ℕ → Dealing → View
view_of t q inputs gs k d =
    record {
      ballot_parts = others_of t q (ballots_of inputs d);
      dealer_parts = others_of t q (triples_of gs d);
      wire_parts = others_of t q (wire_parts_of t inputs gs d);
      published = joined t (published_of t inputs gs k d);
    }

-- Demand 3 for trustees. Whichever trustee q is left out, the others cannot distinguish two elections with the same
-- list and equal last k wires: for each good dealing of the first, exactly one of the second gives the same view.
abbrev pub ViewsHideInputs : Type 0
ViewsHideInputs =
    (t q k : ℕ) (gs : List Gate) (xs ys : List ℕ) (d : Dealing)
    → q < t → k ≤ length gs → length xs ≡ length ys → Bits xs → Bits ys → first_bad (length xs) 0 gs ≡ None
    → outputs_of k (wires_of xs gs) ≡ outputs_of k (wires_of ys gs)
    → GoodDealing t gs xs d
    → ExactlyOne (λ (e : Dealing). GoodDealing t gs ys e
    × (view_of t q (length xs) gs k d ≡ view_of t q (length ys) gs k e))

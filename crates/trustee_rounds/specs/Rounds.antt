-- One trustee in one round: which wire parts it enters, and what it publishes. Trustees are counted from 0.
use Rattle.std.specs.Prelude.{cond, ◌&&◌, List, [], ◌∷◌, ◌++◌, ℕ, suc, ◌+◌, ◌*◌, eqb, get_or, set, replicate}
use Rattle.std.proofs.lemmas.List.Edits.{sets}
use Rattle.gates.specs.Kind.{conditional_of}
use Rattle.gates.specs.Gate.{Gate}
use Rattle.trustee_shares.specs.Shares.{part, masked_first, masked_second, product_part, part_of_kind, mark_of}
use Rattle.trustee_shares.specs.Views.{closing_parts}

-- What a trustee computes a round from, besides the list: its number, the round, the number of inputs, the gates'
-- levels, its own dealer parts, and the sums that all have heard, two for each conditional gate.
pub record Turn : Type 0 where
  pub trustee : ℕ
  pub round : ℕ
  pub inputs : ℕ
  pub levels : List ℕ
  pub triples : List ℕ
  pub heard : List ℕ

-- The trustee's part of the wire of gate x, from its wire parts ws and the sums that it heard. i conditional gates
-- come before x.
unfoldable pub heard_part : Turn → ℕ → Gate → List ℕ → ℕ
heard_part u i x ws =
    part_of_kind u.trustee x.kind (part ws x.a) (part ws x.b) (part ws x.c)
    (product_part u.trustee u.triples i (part u.heard (2 * i)) (part u.heard (2 * i + 1)))

-- The wire parts after the pass over gate x, which is gate g. Its part is entered in the round that is its level.
unfoldable pub enters_gate : Turn → ℕ → ℕ → Gate → List ℕ → List ℕ
enters_gate u g i x ws = cond (eqb (get_or u.levels g 0) u.round) (set ws (u.inputs + g) (heard_part u i x ws)) ws

-- The wire parts after the pass over these gates in order. The first is gate g, and i conditional gates come before
-- it.
unfoldable pub enters : Turn → List Gate → ℕ → ℕ → List ℕ → List ℕ
enters u [] g i ws = ws
enters u (x ∷ xs) g i ws = enters u xs (suc g) (i + mark_of x) (enters_gate u g i x ws)

-- The published bits after the pass over gate x, which is gate g. If it is conditional and its level is the next
-- one, both masked factors are published: its operands are known by now.
unfoldable pub publishes_gate : Turn → List ℕ → ℕ → ℕ → Gate → List ℕ → List ℕ
publishes_gate u ws g i x published =
    cond (conditional_of x.kind && eqb (get_or u.levels g 0) (suc u.round))
    (sets published (2 * i) (masked_first ws u.triples i x ∷ masked_second ws u.triples i x ∷ [])) published

-- The published bits after the pass over these gates in order.
unfoldable pub publishes : Turn → List ℕ → List Gate → ℕ → ℕ → List ℕ → List ℕ
publishes u ws [] g i published = published
publishes u ws (x ∷ xs) g i published = publishes u ws xs (suc g) (i + mark_of x) (publishes_gate u ws g i x published)

-- In the last round, the parts of the last k wires go after the factors of the C conditional gates.
unfoldable pub closes : ℕ → ℕ → ℕ → ℕ → List ℕ → List ℕ → List ℕ
closes round last conditional k ws published =
    cond (eqb round last) (sets published (2 * conditional) (closing_parts k ws)) published

-- A trustee's wire parts at the start: its ballot parts, then zeros for the gates.
unfoldable pub start_wires : ℕ → List ℕ → List ℕ
start_wires gates ballot_parts = ballot_parts ++ replicate gates 0

-- What a trustee has published at the start: zeros.
unfoldable pub start_published : ℕ → ℕ → List ℕ
start_published conditional k = replicate (2 * conditional + k) 0

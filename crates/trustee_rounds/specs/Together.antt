-- All trustees together: each starts, then all do the rounds 0 to R. Before each round, each hears the sums of what
-- all have published.
use Rattle.std.specs.Prelude.{◌≡◌, List, [], ◌∷◌, ℕ, zero, suc, ◌*◌, ◌≤◌, ◌<◌, length, None}
use Rattle.gates.specs.Gate.{Gate}
use Rattle.gates.specs.Board.{conditional_count}
use Rattle.gates.specs.Test.{first_bad}
use Rattle.gate_levels.specs.Levels.{levels_of, rounds_of}
use Rattle.trustee_shares.specs.Shares.{opened, part, Held}
use Rattle.trustee_shares.specs.Views.{Dealing, ballots_of, triples_of, wire_parts_of, published_of}
use Rattle.trustee_rounds.specs.Rounds.{Turn, enters, publishes, closes, start_wires, start_published}

-- The sums modulo 2 of what t trustees published, n of them from place j on.
unfoldable pub sums_from : ℕ → ℕ → ℕ → Held → List ℕ
sums_from t zero j published = []
sums_from t (suc n) j published = opened t (λ p. part (published p) j) ∷ sums_from t n (suc j) published

-- The sums that all trustees hear: two for each conditional gate.
unfoldable pub sums_of : ℕ → ℕ → Held → List ℕ
sums_of t conditional published = sums_from t (2 * conditional) 0 published

-- What each trustee holds: its wire parts and what it has published.
pub record Holdings : Type 0 where
  pub wire_parts : Held
  pub published : Held

-- What trustee p computes round r from: its own dealer parts and, from the others, only the sums.
unfoldable pub turn_of : ℕ → ℕ → List Gate → Dealing → ℕ → Held → ℕ → Turn
turn_of t inputs gs d r published p =
    record {
      trustee = p;
      round = r;
      inputs = inputs;
      levels = levels_of inputs gs;
      triples = triples_of gs d p;
      heard = sums_of t (conditional_count gs) published;
    }

-- Each trustee's wire parts after round r, if s is what all hold before it.
unfoldable pub parts_after : ℕ → ℕ → List Gate → Dealing → ℕ → Holdings → Held
parts_after t inputs gs d r s p = enters (turn_of t inputs gs d r s.published p) gs 0 0 (s.wire_parts p)

-- What each trustee has published after round r, if s is what all hold before it.
unfoldable pub published_after : ℕ → ℕ → List Gate → ℕ → Dealing → ℕ → Holdings → Held
published_after t inputs gs k d r s p =
    closes r (rounds_of inputs gs) (conditional_count gs) k (parts_after t inputs gs d r s p)
    (publishes (turn_of t inputs gs d r s.published p) (parts_after t inputs gs d r s p) gs 0 0 (s.published p))

-- What all trustees hold after the first n rounds, 0 to n − 1.
unfoldable pub holdings_after : ℕ → ℕ → List Gate → ℕ → Dealing → ℕ → Holdings
holdings_after t inputs gs k d zero =
    record {
      wire_parts = λ p. start_wires (length gs) (ballots_of inputs d p);
      published = λ p. start_published
          (conditional_count gs) k;
    }
holdings_after t inputs gs k d (suc r) =
    record {
      wire_parts = parts_after t inputs gs d r (holdings_after t inputs gs k d r);
      published = published_after t inputs gs k d r (holdings_after t inputs gs k d r);
    }

-- What a trustee holds and has published before a round is determined by what it has at the end: if two dealings
-- give it the same at the end, they give it the same before every round.
abbrev pub EarlierFollows : Type 0
EarlierFollows =
    (t inputs k : ℕ) (gs : List Gate) (d e : Dealing)
    → 1 ≤ inputs → k ≤ length gs → first_bad inputs 0 gs ≡ None
    → ((p : ℕ) → p < t → length (ballots_of inputs d p) ≡ inputs)
    → ((p : ℕ) → p < t → length (ballots_of inputs e p) ≡ inputs)
    → (r : ℕ) → r ≤ rounds_of inputs gs → (p : ℕ) → p < t
    → (wire_parts_of t inputs gs d p ≡ wire_parts_of t inputs gs e p
    → (holdings_after t inputs gs k d r).wire_parts p ≡ (holdings_after t inputs gs k e r).wire_parts p)
    × (published_of t inputs gs k d p ≡ published_of t inputs gs k e p
    → (holdings_after t inputs gs k d r).published p ≡ (holdings_after t inputs gs k e r).published p)

-- After the rounds 0 to R each trustee holds the wire parts, and has published the bits, of the single call on the
-- joined tables.
abbrev pub RoundsMakeTheTally : Type 0
RoundsMakeTheTally =
    (t inputs k : ℕ) (gs : List Gate) (d : Dealing)
    → 1 ≤ inputs → k ≤ length gs → first_bad inputs 0 gs ≡ None
    → ((p : ℕ) → p < t → length (ballots_of inputs d p) ≡ inputs)
    → (p : ℕ) → p < t
    → ((holdings_after t inputs gs k d (suc (rounds_of inputs gs))).wire_parts p ≡ wire_parts_of t inputs gs d p)
    × ((holdings_after t inputs gs k d (suc (rounds_of inputs gs))).published p ≡ published_of t inputs gs k d p)

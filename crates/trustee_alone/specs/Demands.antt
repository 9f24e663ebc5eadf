-- What holds for a trustee's calls, stated about the definitions that their contracts equate with answers and
-- tables.
use Rattle.std.specs.Prelude.{◌≡◌, List, [], ◌∷◌, ℕ, suc, ◌+◌, ◌*◌, ◌≤◌, ◌<◌, length}
use Rattle.gates.specs.Gate.{Gate, gates_of}
use Rattle.gates.specs.Board.{conditional_count}
use Rattle.gate_levels.specs.Levels.{levels_of, rounds_of}
use Rattle.jury.specs.declared.shape.Shape.{Shape}
use Rattle.jury.specs.Shape.{ballot_bytes}
use Rattle.jury.specs.ClosingBytes.{eight_bytes}
use Rattle.basics.specs.Lists.{tabulate}
use Rattle.tally.specs.Answer.{accepted, Size, size_of}
use Rattle.tally.specs.Memory.{Lent, KeepsMemory}
use Rattle.levels.specs.Answer.{depths_of}
use Rattle.trustee_shares.specs.Shares.{opened, part, Held}
use Rattle.trustee_shares.specs.Views.{piece, joined, others_of, Dealing, ballots_of, triples_of, View}
use Rattle.trustee_rounds.specs.Together.{sums_of, Holdings, published_after, holdings_after}
use Rattle.trustees.specs.Call.{Call, wire_parts_in}
use Rattle.trustees.specs.Result.{trustees_result}
use Rattle.trustees.specs.Demands.{Way, Tallies}
use Rattle.trustee_alone.specs.Start.{start_reason_numbers, start_outcome, started_wires, started_published}
use Rattle.trustee_alone.specs.Rounds.{round_reason_numbers, round_outcome, rounded_wires, rounded_published}
use Rattle.trustee_alone.specs.Finish.{finish_reason_numbers, finish_outcome, finished_wires}

-- A table before and after a call.
abbrev pub lent : (before after : List ℕ) → Lent
lent before after = record { before = before; after = after }

-- Demand 1. Start and rounds may write to the wire parts and the published bits; finish empties the wire parts.
pub record AloneMemory : Type 0 where
  pub start : (s : Shape) (table : List ℕ) (t p : ℕ) (shares triples ws published : List ℕ)
      → KeepsMemory start_reason_numbers (start_outcome s table t p shares triples ws published)
      (lent ws (started_wires s table t p shares triples ws published)
      ∷ lent published (started_published s table t p shares triples ws published) ∷ []) []
  pub round : (s : Shape) (table : List ℕ) (t p round : ℕ) (levels triples heard ws published : List ℕ)
      → KeepsMemory round_reason_numbers (round_outcome s table t p round levels triples heard ws published)
      (lent ws (rounded_wires s table t p round levels triples heard ws published)
      ∷ lent published (rounded_published s table t p round levels triples heard ws published) ∷ []) []
  pub finish : (s : Shape) (table ws : List ℕ)
      → KeepsMemory finish_reason_numbers (finish_outcome s table ws) (lent ws (finished_wires s table ws) ∷ [])
      (lent ws (finished_wires s table ws) ∷ [])

-- I of the call's shape.
abbrev pub inputs_in : Call → ℕ
inputs_in c = ballot_bytes c.shape

-- R of the call's list.
abbrev pub rounds_in : Call → ℕ
rounds_in c = rounds_of (inputs_in c) (gates_of c.table)

-- What the trustees of the call hold before round r, if each is on its own machine.
abbrev pub holdings_in : Call → ℕ → Holdings
holdings_in c r =
    holdings_after c.trustees (inputs_in c) (gates_of c.table) c.shape.candidates c.lent.dealing r

-- The sums of what all trustees have published before round r.
unfoldable pub heard_before : Call → ℕ → List ℕ
heard_before c r = sums_of c.trustees (conditional_count (gates_of c.table)) (holdings_in c r).published

-- Each trustee's ballot parts.
abbrev pub shares_in : Call → Held
shares_in c p = ballots_of (inputs_in c) c.lent.dealing p

-- Each trustee's triples.
abbrev pub triples_in : Call → Held
triples_in c p = triples_of (gates_of c.table) c.lent.dealing p

-- Each trustee's wire parts after the rounds 0 to R.
abbrev pub parts_at_end : Call → Held
parts_at_end c = (holdings_in c (suc (rounds_in c))).wire_parts

-- What all have published after the rounds 0 to R, trustee after trustee.
abbrev pub published_at_end : Call → List ℕ
published_at_end c = joined c.trustees (holdings_in c (suc (rounds_in c))).published

-- The closing bytes, which anyone can compute from the published bits: the sums of the last k bits of each trustee's
-- piece.
unfoldable pub closing_heard : Call → List ℕ
closing_heard c =
    let factors = 2 * conditional_count (gates_of c.table) in
    let k = c.shape.candidates in
    let bit : ℕ → ℕ → ℕ = λ j p. part (piece (factors + k) (published_at_end c) p) (factors + j) in
    eight_bytes (tabulate k (λ j. opened c.trustees (bit j)))

-- What the trustees except q hold and see before round r: their own tables, and every bit published so far.
abbrev pub view_before : (r q : ℕ) → Call → View
view_before r q c =
    record {
      ballot_parts = others_of c.trustees q (shares_in c);
      dealer_parts = others_of c.trustees q (triples_in c);
      wire_parts = others_of c.trustees q (holdings_in c r).wire_parts;
      published = joined c.trustees (holdings_in c r).published;
    }

-- Trustees apart, each on its own machine, as a way to count. Their view is the one after all rounds.
abbrev pub apart : Way
apart =
    record {
      parts = parts_at_end;
      published = published_at_end;
      closing = closing_heard;
      view = λ q c. view_before (suc (rounds_in c)) q c;
    }

-- Trustees who see the same at the end of two elections saw the same before every round.
abbrev pub NoEarlierView : Type 0
NoEarlierView =
    (c c' : Call) (first second : Size)
    → c.shape ≡ c'.shape → c.table ≡ c'.table → c.trustees ≡ c'.trustees
    → (trustees_result c).answer ≡ accepted first → (trustees_result c').answer ≡ accepted second
    → (q : ℕ) → apart.view q c ≡ apart.view q c'
    → (r : ℕ) → r ≤ rounds_in c → view_before r q c ≡ view_before r q c'

-- Trustees apart end as the single call of request 2.7 does on the joined tables: after the rounds 0 to R each
-- holds the wire parts of that call, they have published what that call publishes, and the closing bytes are the
-- same.
pub record AsTheOneCall (c : Call) : Type 0 where
  pub same_parts : (p : ℕ) → p < c.trustees → parts_at_end c p ≡ wire_parts_in c p
  pub same_published : published_at_end c ≡ (trustees_result c).published
  pub same_closing : closing_heard c ≡ (trustees_result c).closing

-- The start of trustee p on these tables is accepted, and leaves what it holds before round 0.
pub record StartOf (c : Call) (p : ℕ) (ws published : List ℕ) : Type 0 where
  pub answer : start_outcome c.shape c.table c.trustees p (shares_in c p) (triples_in c p) ws published
      ≡ accepted (size_of (gates_of c.table))
  pub wires : started_wires c.shape c.table c.trustees p (shares_in c p) (triples_in c p) ws published
      ≡ (holdings_in c 0).wire_parts p
  pub bits : started_published c.shape c.table c.trustees p (shares_in c p) (triples_in c p) ws published
      ≡ (holdings_in c 0).published p

-- Round r of trustee p is accepted, and leaves what it holds before round r + 1.
pub record RoundOf (c : Call) (p r : ℕ) : Type 0 where
  pub answer : round_outcome c.shape c.table c.trustees p r (levels_of (inputs_in c) (gates_of c.table))
      (triples_in c p) (heard_before c r) ((holdings_in c r).wire_parts p) ((holdings_in c r).published p)
      ≡ accepted (depths_of (inputs_in c) (gates_of c.table))
  pub wires : rounded_wires c.shape c.table c.trustees p r (levels_of (inputs_in c) (gates_of c.table))
      (triples_in c p) (heard_before c r) ((holdings_in c r).wire_parts p) ((holdings_in c r).published p)
      ≡ (holdings_in c (suc r)).wire_parts p
  pub bits : rounded_published c.shape c.table c.trustees p r (levels_of (inputs_in c) (gates_of c.table))
      (triples_in c p) (heard_before c r) ((holdings_in c r).wire_parts p) ((holdings_in c r).published p)
      ≡ (holdings_in c (suc r)).published p

-- Trustee p's start, on any tables of the right lengths, and each of its rounds up to R. So the program's calls
-- leave what `holdings_in` says.
pub record CallsOf (c : Call) (p : ℕ) : Type 0 where
  pub start : (ws published : List ℕ) → length ws ≡ inputs_in c + length (gates_of c.table)
      → length published ≡ 2 * conditional_count (gates_of c.table) + c.shape.candidates → StartOf c p ws published
  pub round : (r : ℕ) → r ≤ rounds_in c → RoundOf c p r

-- What a trustee publishes depends only on its own tables and on the sums that it heard: it is equal in two
-- elections that agree on these.
abbrev pub OwnTablesOnly : Type 0
OwnTablesOnly =
    (t inputs k : ℕ) (gs : List Gate) (d e : Dealing) (r : ℕ) (one other : Holdings) (p : ℕ)
    → triples_of gs d p ≡ triples_of gs e p
    → sums_of t (conditional_count gs) one.published ≡ sums_of t (conditional_count gs) other.published
    → one.wire_parts p ≡ other.wire_parts p → one.published p ≡ other.published p
    → published_after t inputs gs k d r one p ≡ published_after t inputs gs k e r other p

-- Everything that holds for trustees apart. Demands 2 and 3 are stated for the elections that the single call
-- accepts.
pub record AloneHolds : Type 0 where
  pub memory : AloneMemory
  pub own_tables_only : OwnTablesOnly
  pub tallies : Tallies apart
  pub no_earlier_view : NoEarlierView
  pub as_the_one_call : (c : Call) (size : Size) → (trustees_result c).answer ≡ accepted size → AsTheOneCall c
  pub calls : (c : Call) (size : Size) → (trustees_result c).answer ≡ accepted size
      → (p : ℕ) → p < c.trustees → CallsOf c p

-- The three demands for the trustees' call, stated about the definition that its contract equates with its answer
-- and with all that is lent.
use Rattle.std.specs.Prelude.{◌≡◌, List, [], ◌∷◌, ℕ, ◌+◌, ◌<◌, length, replicate}
use Rattle.gates.specs.Gate.{gates_of}
use Rattle.gates.specs.Wires.{wire, wires_of, outputs_of}
use Rattle.gates.specs.Hiding.{ExactlyOne}
use Rattle.jury.specs.Reason.{Reason}
use Rattle.jury.specs.ClosingBytes.{eight_bytes}
use Rattle.tally.specs.Answer.{refused, accepted, Size, size_of}
use Rattle.tally.specs.SaysWhoWins.{SaysWhoWins}
use Rattle.tally.specs.Memory.{Lent, KeepsMemory}
use Rattle.tally.specs.Count.{plain_closing}
use Rattle.tally.specs.Run.{run_result}
use Rattle.tally.specs.Hiding.{closing_bytes}
use Rattle.tally.specs.Write.{write_outcome}
use Rattle.tally.specs.Demands.{list_in}
use Rattle.trustee_shares.specs.Shares.{opened, part, Held}
use Rattle.trustee_shares.specs.Views.{Dealing, View}
use Rattle.jury.specs.Shape.{most_candidates}
use Rattle.trustees.specs.Call.{Call, dealt_as, wire_parts_in, view_in}
use Rattle.trustees.specs.Reasons.{trustees_reason_numbers}
use Rattle.trustees.specs.Result.{trustees_result}

-- An accepted call answers the G and C of its list.
abbrev pub Accepted : Call → Type 0
Accepted c = (trustees_result c).answer ≡ accepted (size_of (gates_of c.table))

-- Demand 1. The call may write to two tables, and empties the wire parts. A refusal answers zeros for the sums.
pub record TrusteesMemory (c : Call) : Type 0 where
  pub keeps : let parts : Lent = record { before = c.lent.wire_parts; after = (trustees_result c).wire_parts } in
      let bits : Lent = record { before = c.lent.published; after = (trustees_result c).published } in
      KeepsMemory trustees_reason_numbers (trustees_result c).answer (parts ∷ bits ∷ []) (parts ∷ [])
  pub zeros : (r : Reason) → (trustees_result c).answer ≡ refused r
      → (trustees_result c).closing ≡ replicate most_candidates 0

-- A way in which trustees count: each trustee's parts of all wires, everything that is published, the closing
-- bytes, and what the trustees except q hold and see. Demands 2 and 3 are stated for any such way.
pub record Way : Type 0 where
  pub parts : Call → Held
  pub published : Call → List ℕ
  pub closing : Call → List ℕ
  pub view : (q : ℕ) → Call → View

-- The single call on the joined tables. It leaves zeros for wire parts. The contract of
-- `trustee_gates::evaluate::evaluate` says that they were `wire_parts_in` before they were emptied.
abbrev pub in_one_call : Way
in_one_call =
    record {
      parts = wire_parts_in;
      published = λ c. (trustees_result c).published;
      closing = λ c. (trustees_result c).closing;
      view = view_in;
    }

-- Demand 2 for an accepted call: the parts of every wire add up to the plain wire, and the closing bytes are those of
-- every accepted plain run, whatever its tape.
pub record WayAccuracy (way : Way) (c : Call) (size : Size) : Type 0 where
  pub own_size : size ≡ size_of (gates_of c.table)
  pub every_wire : (x : ℕ) → x < length c.ballots + length (gates_of c.table)
      → opened c.trustees (λ p. part (way.parts c p) x) ≡ wire (wires_of c.ballots (gates_of c.table)) x
  pub last_wires : way.closing c
      ≡ eight_bytes (outputs_of c.shape.candidates (wires_of c.ballots (gates_of c.table)))
  pub plain_run : (tape wires board : List ℕ) (run : Size)
      → (run_result c.shape c.table c.ballots tape wires board).answer ≡ accepted run
      → way.closing c
      ≡ eight_bytes (closing_bytes c.shape (run_result c.shape c.table c.ballots tape wires board).board)

-- With the own list of the shape, the closing bytes are those of the plain count, and say who wins.
pub record OwnListAccuracy (way : Way) (c : Call) : Type 0 where
  pub plain_count : way.closing c ≡ plain_closing c.shape c.ballots
  pub says_who_wins : SaysWhoWins c.shape c.ballots (way.closing c)

-- Demand 3 for two calls with the same shape, list and number of trustees. Whichever trustee q is left out: for
-- each accepted dealing d of the first, exactly one accepted dealing e of the second gives the other trustees the
-- same view. The published bits of a view are those that the call publishes.
pub record ViewsHide (way : Way) (c c' : Call) : Type 0 where
  pub same_view : (q : ℕ) → q < c.trustees → (d : Dealing) → Accepted (dealt_as c d)
      → ExactlyOne (λ (e : Dealing). Accepted (dealt_as c' e)
      × (way.view q (dealt_as c d) ≡ way.view q (dealt_as c' e)))
  pub sees_the_table : (q : ℕ) (d : Dealing) → Accepted (dealt_as c d)
      → (way.view q (dealt_as c d)).published ≡ way.published (dealt_as c d)

-- Demand 3: `ViewsHide` holds for all accepted calls with the same shape, list, number of trustees and closing
-- bytes.
abbrev pub ViewsTellNoMore : Way → Type 0
ViewsTellNoMore way =
    (c c' : Call) (first second : Size)
    → c.shape ≡ c'.shape → c.table ≡ c'.table → c.trustees ≡ c'.trustees
    → (trustees_result c).answer ≡ accepted first
    → (trustees_result c').answer ≡ accepted second
    → way.closing c ≡ way.closing c'
    → ViewsHide way c c'

-- Demands 2 and 3 together.
pub record Tallies (way : Way) : Type 0 where
  pub accuracy : (c : Call) (size : Size) → (trustees_result c).answer ≡ accepted size → WayAccuracy way c size
  pub own_list : (c : Call) (table : List ℕ) (size answer : Size)
      → write_outcome c.shape table ≡ accepted size → c.table ≡ list_in c.shape size table
      → (trustees_result c).answer ≡ accepted answer → OwnListAccuracy way c
  pub hiding : ViewsTellNoMore way

pub record TrusteesHold : Type 0 where
  pub memory : (c : Call) → TrusteesMemory c
  pub tallies : Tallies in_one_call

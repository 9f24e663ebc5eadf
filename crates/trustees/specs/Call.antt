-- The entry point [trustees]: what it is given and lent (request 2.7).
use Rattle.std.specs.Prelude.{List, ℕ, length}
use Rattle.gates.specs.Gate.{gates_of}
use Rattle.jury.specs.declared.shape.Shape.{Shape}
use Rattle.trustee_shares.specs.Shares.{Held}
use Rattle.trustee_shares.specs.Views.{Dealing, wire_parts_of, published_of, View, view_of}
use Rattle.trustees.specs.declared.test.LentTables.{LentTables}

-- The four tables that go trustee after trustee: a dealing, which is only read, and two to write to.
pub record PartTables : Type 0 where
  pub dealing : Dealing
  pub wire_parts : List ℕ
  pub published : List ℕ

-- The four tables as the program's tests read them.
abbrev pub tables_in : LentTables → PartTables
tables_in l =
    record {
      dealing = record { ballot_parts = l.shares.now; dealer_parts = l.triples.now };
      wire_parts = l.wires.now;
      published = l.published.now;
    }

-- All that the call is given.
pub record Call : Type 0 where
  pub shape : Shape
  pub table : List ℕ
  pub ballots : List ℕ
  pub trustees : ℕ
  pub lent : PartTables

-- The same call with another dealing.
abbrev pub dealt_as : Call → Dealing → Call
dealt_as c d =
    record {
      shape = c.shape;
      table = c.table;
      ballots = c.ballots;
      trustees = c.trustees;
      lent = record { dealing = d; wire_parts = c.lent.wire_parts; published = c.lent.published };
    }

-- Each trustee's parts of all wires.
abbrev pub wire_parts_in : Call → Held
wire_parts_in c = wire_parts_of c.trustees (length c.ballots) (gates_of c.table) c.lent.dealing

-- All that each trustee publishes.
abbrev pub published_in : Call → Held
published_in c = published_of c.trustees (length c.ballots) (gates_of c.table) c.shape.candidates
    c.lent.dealing

-- What the trustees except q hold and see.
abbrev pub view_in : ℕ → Call → View
view_in q c = view_of c.trustees q (length c.ballots) (gates_of c.table) c.shape.candidates c.lent.dealing

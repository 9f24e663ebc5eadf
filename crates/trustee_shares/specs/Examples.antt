-- Demand 3 for trustees on two concrete dealings: the inputs differ, the outputs are equal, and the view is the
-- same. Two trustees evaluate one gate that says whether wires 0 and 1 are both 1; trustee 1 is left out.
use Rattle.std.specs.Prelude.{◌≡◌, List, [], ◌∷◌}
use Rattle.gates.specs.Gate.{Gate}
use Rattle.trustee_shares.specs.Views.{Dealing, View, view_of}

-- One gate: both wires are 1.
abbrev pub and_gate : List Gate
and_gate = record { kind = 4; a = 0; b = 1; c = 0 } ∷ []

-- The inputs 1 0: trustee 0 holds 0 0 and trustee 1 holds 1 0, and all bits of the triple are 0.
abbrev pub first_dealing : Dealing
first_dealing = record { ballot_parts = 0 ∷ 0 ∷ 1 ∷ 0 ∷ []; dealer_parts = 0 ∷ 0 ∷ 0 ∷ 0 ∷ 0 ∷ 0 ∷ [] }

-- The inputs 0 1: trustee 0 holds the same, trustee 1 holds 0 1 and has ones in its triple.
abbrev pub second_dealing : Dealing
second_dealing = record { ballot_parts = 0 ∷ 0 ∷ 0 ∷ 1 ∷ []; dealer_parts = 0 ∷ 0 ∷ 0 ∷ 1 ∷ 1 ∷ 1 ∷ [] }

-- The inputs 0 1 with the triple of the first dealing.
abbrev pub other_triple : Dealing
other_triple = record { ballot_parts = 0 ∷ 0 ∷ 0 ∷ 1 ∷ []; dealer_parts = 0 ∷ 0 ∷ 0 ∷ 0 ∷ 0 ∷ 0 ∷ [] }

-- What trustee 0 holds and sees in both dealings: its own parts, and what both trustees publish.
abbrev pub one_view : View
one_view =
    record {
      ballot_parts = (0 ∷ 0 ∷ []) ∷ [];
      dealer_parts = (0 ∷ 0 ∷ 0 ∷ []) ∷ [];
      wire_parts = (0 ∷ 0 ∷ 0 ∷ []) ∷ [];
      published = 0 ∷ 0 ∷ 0 ∷ 1 ∷ 0 ∷ 0 ∷ [];
    }

pub record PairOfDealings : Type 0 where
  pub first_view : view_of 2 1 2 and_gate 1 first_dealing ≡ one_view
  pub second_view : view_of 2 1 2 and_gate 1 second_dealing ≡ one_view
  -- with the first dealing's triple, trustee 0 sees something else
  pub other_view : (view_of 2 1 2 and_gate 1 other_triple).published ≡ 0 ∷ 0 ∷ 0 ∷ 0 ∷ 1 ∷ 0 ∷ []

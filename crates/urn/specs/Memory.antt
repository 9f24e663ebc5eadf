-- The demand [memory] for the urn, stated about the definitions that the contracts equate with the answers and with
-- the urn after the call. Previews are lent no table to write to.
use Rattle.std.specs.Prelude.{List, [], ◌∷◌, ℕ}
use Rattle.tally.specs.Memory.{KeepsMemory}
use Rattle.urn.specs.Admit.{admit_reason_numbers, admit_outcome, admitted}
use Rattle.urn.specs.Withdraw.{withdraw_reason_numbers, withdraw_outcome, withdrawn}
use Rattle.urn.specs.Empty.{empty_reason_numbers, empty_outcome, emptied}

pub record UrnMemory : Type 0 where
  pub empty : (k d : ℕ) (table : List ℕ)
      → KeepsMemory empty_reason_numbers (empty_outcome k d table)
      (record { before = table; after = emptied k d table } ∷ []) []
  pub admit : (k d : ℕ) (urn : List ℕ) (juror : ℕ) (ballot : List ℕ)
      → KeepsMemory admit_reason_numbers (admit_outcome k d urn juror ballot)
      (record { before = urn; after = admitted k d urn juror ballot } ∷ []) []
  pub withdraw : (k d : ℕ) (urn : List ℕ) (juror : ℕ)
      → KeepsMemory withdraw_reason_numbers (withdraw_outcome k d urn juror)
      (record { before = urn; after = withdrawn k d urn juror } ∷ []) []
  pub preview_admit : (k d : ℕ) (urn : List ℕ) (juror : ℕ) (ballot : List ℕ)
      → KeepsMemory admit_reason_numbers (admit_outcome k d urn juror ballot) [] []
  pub preview_withdraw : (k d : ℕ) (urn : List ℕ) (juror : ℕ)
      → KeepsMemory withdraw_reason_numbers (withdraw_outcome k d urn juror) [] []

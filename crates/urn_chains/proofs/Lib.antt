-- Laws that the proofs of functions rest on.
pub mod SlotLaws
pub mod Zeros
pub mod Lists
pub mod Marks
pub mod SoundLaws
pub mod GoodBallots
pub mod SlotChecks
pub mod Walks
pub mod Linked
pub mod Layouts
pub mod BytesLaws
pub mod Positions
pub mod SlotTests
pub mod SoundLayouts

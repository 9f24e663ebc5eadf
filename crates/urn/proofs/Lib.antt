-- Laws that the proofs of functions rest on.
pub mod SlotBytes
pub mod FactLaws
pub mod Outcomes
pub mod AdmittedSlots
pub mod AdmittedBytes
pub mod WithdrawnSlots
pub mod WithdrawnBytes
pub mod EmptyUrn
pub mod Previews
pub mod UrnTheorems
pub mod UrnMemory
pub mod Order

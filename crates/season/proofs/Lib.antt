pub mod MaskLaws
pub mod RunLaws
pub mod SumLaws
pub mod Reasons
pub mod Edges

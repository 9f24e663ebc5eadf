pub mod DecimalLaws
pub mod LineLaws
pub mod Found
pub mod Storing

pub mod ListWriters

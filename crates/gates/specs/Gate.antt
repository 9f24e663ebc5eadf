-- Gates, and the table of numbers that holds a list of them.
pub use Rattle.gates.specs.Open.Gate.{Gate, gates_of, numbers_of, gate_at}

-- The values of the wires.
pub use Rattle.gates.specs.Open.Wires.{wire, value, wires_of, outputs_of}

-- A part of a run: a range of a list's gates is evaluated on whatever the wire table and the board hold.
pub use Rattle.gates.specs.Open.Step.{range_of, step_wires, step_board}

-- The evaluating step: it evaluates a range of a list's gates, after the wires and shown bits of earlier gates.
pub use Rattle.gates.specs.Open.Step.{range_of, StepReady, step_wires, step_board, FinishReady, RunReady, GateReady}
pub use Rattle.gates.specs.Open.Step.{GateRan, Stepped, CloseReady, Evaluated}

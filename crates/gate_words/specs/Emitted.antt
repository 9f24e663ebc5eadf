-- The gate that the writer writes for a kind and three operands.
use Rattle.std.specs.Prelude.{cond, ℕ, ltb}
use Rattle.gates.specs.Kind.{operands_of}
use Rattle.gates.specs.Gate.{Gate}

-- Each operand that the kind does not use is written as 0.
unfoldable pub emitted : ℕ → ℕ → ℕ → ℕ → Gate
emitted kind a b c =
    record {
      kind = kind;
      a = cond (ltb 0 (operands_of kind)) a 0;
      b = cond (ltb 1 (operands_of kind)) b 0;
      c = cond
          (ltb 2 (operands_of kind)) c 0;
    }

-- The wire of a chain's result is below the chain's end: it is one of its gates or, if there is none, wire s.
-- Assumes nothing.
use Prim.Native.Nat.{ℕ, zero, suc, ◌+◌, ◌≤◌, ◌<◌}
use native.Mathlib.Omega.{arith}
use Rattle.gate_words.specs.Choice.{chain_end}

pub chain_below : (n s w m : ℕ) → s < m → n + w ≤ m → chain_end n s w < m
unfolding chain_end
chain_below n s zero m h l = h
chain_below n s (suc w) m h l = omega arith

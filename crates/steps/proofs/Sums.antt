-- A stage of a sum of registers bit by bit modulo 2 is the sum modulo 2 of their stages.
-- Assumes nothing.
use mathlib.Core.Path.{◌≡◌, sym, ◌∙◌}
use Prim.Native.Nat.{ℕ, ◌+◌, ◌%◌}
use lib.Bits.{bit_xor}
use Rattle.registers.specs.Register.{stage}
use Rattle.registers.proofs.Shifts.{sum_digit, stage-lt, stage_linear}

pub stage_xor : (k x y : ℕ) → stage k (bit_xor x y) ≡ (stage k x + stage k y) % 2
stage_xor k x y = (stage_linear k).at_sum x y ∙ sym (sum_digit (stage-lt k x) (stage-lt k y))

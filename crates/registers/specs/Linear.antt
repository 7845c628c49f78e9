-- Linear shifts: what the law of leaps asks of a register.
-- Assumes nothing.
use Rattle.std.specs.Prelude.{ℕ, ◌≡◌, ◌^◌, ◌<◌}
use Rattle.std.specs.Int.Bits.{bit_xor}

-- f takes 0 to 0, and a sum bit by bit modulo 2 to the sum
pub record Linear (f : ℕ → ℕ) : Type 0 where
  pub at_zero : f 0 ≡ 0
  pub at_sum : (x y : ℕ) → f (bit_xor x y) ≡ bit_xor (f x) (f y)

-- a linear shift of registers of s stages, which keeps a register within them
pub record Shift (s : ℕ) (f : ℕ → ℕ) : Type 0 where
  pub linear : Linear f
  pub keeps : (r : ℕ) → r < 2 ^ s → f r < 2 ^ s

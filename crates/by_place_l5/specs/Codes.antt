-- L5 by the advance of its XB, for the contract of an inner function.
-- Assumes nothing.
use Rattle.std.specs.Prelude.{ℕ, ◌+◌, ◌%◌}
use Rattle.standard.specs.Standard.{xa, xb}

-- the chip at a time of the week
abbrev pub code_l5 : ℕ → ℕ → ℕ
code_l5 advance t = (xa t + xb advance t) % 2

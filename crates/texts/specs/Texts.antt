-- The text of a refusal and of a chip, as bytes: document 01, "Line program". Bytes are those of ASCII: 10 is a newline, 32 a space, 48 to 57 are the
-- digits.
-- Assumes nothing.
use Rattle.std.specs.Prelude.{ℕ, ◌+◌, cond, List, [], ◌∷◌, eqb}

-- `refused N`, of one digit
abbrev pub refused_line : ℕ → List ℕ
refused_line n = 114 ∷ 101 ∷ 102 ∷ 117 ∷ 115 ∷ 101 ∷ 100 ∷ 32 ∷ (48 + n) ∷ 10 ∷ []

-- a chip as text, 0 or 1
abbrev pub chip_digit : ℕ → ℕ
chip_digit chip = cond (eqb chip 0) 48 49

-- The table by which a register of L2 is brought to a phase, for the contracts of inner functions.
-- A row is what a function makes of each of the 27 digits alone (`columns` of `registers`).
-- Assumes nothing.
use Rattle.std.specs.Prelude.{ℕ, zero, suc, ◌*◌, ◌/◌, ◌%◌, ◌^◌, List, [], ◌∷◌, ◌++◌, map}
use Rattle.registers.specs.Row.{combine, columns}

-- the register whose hexadecimal digit i / 16 is i % 16, the others being 0
abbrev pub digit_of : ℕ → ℕ
digit_of i = i % 16 * 16 ^ (i / 16)

-- what a row makes of n such registers, from i on
unfoldable pub digits_by : List ℕ → ℕ → ℕ → List ℕ
digits_by row zero i = []
digits_by row (suc n) i = combine row (digit_of i) ∷ digits_by row n (suc i)

-- the same of n rows, each next one a step further
unfoldable pub steps : ℕ → List ℕ → List ℕ → List ℕ
steps zero step row = []
steps (suc n) step row = digits_by row 104 0 ++ steps n step (map (combine step) row)

-- the row n steps on
unfoldable pub further : ℕ → List ℕ → List ℕ → List ℕ
further zero step row = row
further (suc n) step row = further n step (map (combine step) row)

-- the row of no shift
abbrev pub still : List ℕ
still = columns (λ r. r) 0 27

-- none to seven steps, then none to seven of eight steps each, and so on, n times
unfoldable pub moves : ℕ → List ℕ → List ℕ
moves zero step = []
moves (suc n) step = steps 8 step still ++ moves n (further 8 step still)

-- A row by digits of the register to base 16: for each digit, the lowest first, what the row makes
-- of its sixteen values. The numbers that stand at a register's digits, added bit by bit modulo 2,
-- are then what the row makes of the register.
-- Assumes nothing.
use Rattle.std.specs.Prelude.{ℕ, zero, suc, ◌+◌, ◌/◌, ◌%◌, ◌≤◌, ◌<◌, ◌≡◌, List, [], ◌∷◌, ◌++◌, length, get_or, take, drop}
use Rattle.std.specs.Int.Bits.{bit_xor}
use Rattle.registers.specs.Row.{combine}
use Rattle.leaps.specs.Leaps.{rows_of}

-- what the four numbers of one digit make of n of its values, from v on
unfoldable pub of_values : List ℕ → ℕ → ℕ → List ℕ
of_values four v zero = []
of_values four v (suc n) = combine four v ∷ of_values four (suc v) n

-- a row by so many digits
unfoldable pub row_by_digits : ℕ → List ℕ → List ℕ
row_by_digits zero row = []
row_by_digits (suc g) row = of_values (take 4 row) 0 16 ++ row_by_digits g (drop 4 row)

-- n rows of s numbers by so many digits
unfoldable pub rows_by_digits : ℕ → ℕ → ℕ → List ℕ → List ℕ
rows_by_digits g zero s t = []
rows_by_digits g (suc n) s t = row_by_digits g (take s t) ++ rows_by_digits g n s (drop s t)

-- the numbers at a register's digits, added bit by bit modulo 2
unfoldable pub at_digits : ℕ → List ℕ → ℕ → ℕ
at_digits zero d r = 0
at_digits (suc g) d r = bit_xor (get_or d (r % 16) 0) (at_digits g (drop 16 d) (r / 16))

-- the digits of a register of s stages
abbrev pub digits_of : ℕ → ℕ
digits_of s = (s + 3) / 4

-- a table of rows of s numbers has no rows by digits, or those of its rows
pub record AsTheRows (s : ℕ) (t d : List ℕ) : Type 0 where
  -- the register, a number of 32 bits, has no more stages than bits, and so eight digits at most
  pub few_stages : s ≤ 32
  -- d is empty, or else it is every row of the table by digits, one after the other
  pub as_rows : 0 < length d → d ≡ rows_by_digits (digits_of s) (rows_of s t) s t

-- a table that has rows by digits has those of its rows
abbrev pub WhereByDigits : ℕ → List ℕ → List ℕ → Type 0
WhereByDigits s t d = 0 < length d → AsTheRows s t d

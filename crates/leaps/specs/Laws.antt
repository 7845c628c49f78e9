-- The laws of leaps, each for registers of every width together: f is any linear shift of registers of s stages, and t a table of n rows that passes the
-- test of the rule. The law of digits is of any row.
-- Assumes nothing.
use Rattle.std.specs.Prelude.{ℕ, ◌*◌, ◌^◌, ◌≤◌, ◌<◌, ◌≡◌, true, List, length}
use Rattle.registers.specs.Row.{combine}
use Rattle.registers.specs.Times.{times}
use Rattle.registers.specs.Linear.{Shift}
use Rattle.leaps.specs.Leaps.{leaps}
use Rattle.leaps.specs.Rule.{rule, EachEntry}
use Rattle.leaps.specs.Digits.{row_by_digits, at_digits}

-- The rows at the ones of the phase p, applied to a register r, are p shifts of it.
abbrev pub LawOfLeaps : Type 0
LawOfLeaps =
    (s n : ℕ) (f : ℕ → ℕ) (t : List ℕ) → Shift s f → rule f n s t ≡ true → (p r : ℕ) → p < 2 ^ n → r < 2 ^ s → leaps n s t p r ≡ times f p r

-- What the test of the whole table says of each entry.
abbrev pub LawOfEntries : Type 0
LawOfEntries = (s n : ℕ) (f : ℕ → ℕ) (t : List ℕ) → Shift s f → rule f n s t ≡ true → EachEntry f n s t

-- A row of at most 4 g numbers, kept by g digits, is applied by what stands at the register's digits, whatever the register.
abbrev pub LawOfDigits : Type 0
LawOfDigits = (g : ℕ) (row : List ℕ) (r : ℕ) → length row ≤ 4 * g → at_digits g (row_by_digits g row) r ≡ combine row r

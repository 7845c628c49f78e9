-- A right table of leaps.
-- Assumes nothing.
use Rattle.std.specs.Prelude.{ℕ, ◌≤◌, ◌≡◌, true, List}
use Rattle.leaps.specs.Leaps.{rows_of}
use Rattle.leaps.specs.Rule.{rule}

-- the table of a register of so many stages, with a row for each binary digit of a phase
pub record TableOf (stages digits : ℕ) (shift : ℕ → ℕ) (width : ℕ) (entries : List ℕ) : Type 0 where
  pub width_is : width ≡ stages
  pub rows_are : rows_of width entries ≡ digits
  pub few : rows_of width entries ≤ 20
  -- its first row is one shift of each stage, and each next row is the row above applied twice
  pub right : rule shift (rows_of width entries) width entries ≡ true

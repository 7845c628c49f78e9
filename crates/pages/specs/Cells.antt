-- What a cell of the tables shows.
-- Assumes nothing.
use Rattle.std.specs.Prelude.{ℕ, Result, Ok, Err}
use Rattle.refusals.specs.Refusal.{number_of}
use Rattle.refusals.specs.declared.Refusal.{Refusal}
use Rattle.pages.specs.declared.values.Value.{Value}

-- A cell: a value, or the number of a refusal in its place.
pub data Cell : Type 0 where
  value : Value → Cell
  refused : ℕ → Cell

-- what each case of an answer shows
abbrev pub of_shown : Result Value Refusal → Cell
of_shown (Ok v) = value v
of_shown (Err r) = refused (number_of r)

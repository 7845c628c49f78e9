-- What the functions that make a channel hand to each other.
-- Assumes nothing.
use Rattle.std.specs.Prelude.{ℕ, ◌+◌, ◌-◌, ◌/◌, ◌<◌, ◌^◌, ◌≡◌, List}
use Rattle.registers.specs.Times.{times}
use Rattle.machine.specs.Generators.{Kind}
use Rattle.sequences.specs.Sequences.{word_in}

-- a table that begins `from` chips before phase 0 has, at each phase of a cycle, the register of a
-- kind as the first chips from there on
abbrev pub Tabled : Kind → ℕ → List ℕ → ℕ → ℕ → Type 0
Tabled k cycle table from width =
    (q : ℕ) → q < cycle → word_in table (from + q) / 2 ^ (64 - width) ≡ times k.shift q k.start

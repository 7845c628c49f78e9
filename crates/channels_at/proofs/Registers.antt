-- Registers at a place.
--     phase_in       a phase lies in the cycle
--     with_register_is, tabled_is   a generator with the register of its phase, and one whose register is read from a table
--     words_tell, word_small   its words' digits
--     read, read_from   a table of a register's chips, which begins with its start or so many chips earlier
-- Assumes nothing.
use Prim.Native.Nat.{ℕ, ◌+◌, ◌-◌, ◌/◌, ◌%◌, ◌^◌, ◌<◌, ◌≤◌}
use mathlib.Core.Path.{◌≡◌, ap, ◌∙◌}
use mathlib.Core.List.{List}
use native.Mathlib.Omega.{arith}
use Rattle.registers.specs.Times.{times}
use Rattle.registers.specs.Register.{stage, shift}
use Rattle.registers.proofs.Repeat.{times-add}
use Rattle.machine.specs.Generators.{Kind}
use Rattle.sequences.specs.Sequences.{sequence, word_in, Tells}
use Rattle.sequences.proofs.Words.{word_is, given-lt}
use Rattle.sequences.proofs.Chips.{word_tells, register_is}
use Rattle.week.specs.declared.Course.{Course}
use Rattle.week.specs.declared.Standing.{Standing}
use Rattle.week.specs.Standing.{standing_at, generator_at}
use Rattle.generators_at.proofs.Phases.{phase-lt}
use Rattle.generators_at.specs.Inner.{at_standing}
use Rattle.channels_at.specs.Inner.{Tabled}

pub phase_in : (c : Course) (place : ℕ) (at : Standing) → 0 < c.cycle → at ≡ standing_at c place → at.phase < c.cycle
phase_in c place at some e = rw e (phase-lt c place some)

module _ (k : Kind) (c : Course) (place : ℕ) where
  pub with_register_is : (at : Standing) (register : ℕ) → at ≡ standing_at c place → register ≡ times k.shift at.phase k.start
      → at_standing register at ≡ generator_at k c place
  unfolding generator_at
  with_register_is at register ea er = rw (er, ea)

  pub tabled_is : (table : List ℕ) (from width : ℕ) (at : Standing) (register : ℕ) → 0 < c.cycle → Tabled k c.cycle table from width
      → at ≡ standing_at c place → register ≡ word_in table (from + at.phase) / 2 ^ (64 - width) → at_standing register at ≡ generator_at k c place
  tabled_is table from width at register some tabled ea er =
      with_register_is at register ea (er ∙ tabled at.phase (phase_in c place at some ea))

module _ (s : ℕ) (f : ℕ → ℕ) (n begin : ℕ) where
  pub words_tell : (last : ℕ) (table : List ℕ) → table ≡ sequence f s n begin → last / 64 + 1 < n → (q : ℕ) → q ≤ last
      → Tells (word_in table q) 64 (λ j. stage s (times f (q + j) begin))
  words_tell last table is room q l j h =
      ap (λ (t : List ℕ). word_in t q / 2 ^ (63 - j) % 2) is ∙ word_tells f s n begin q (omega (arith, room, l)) j h

  pub word_small : (q : ℕ) (table : List ℕ) → table ≡ sequence f s n begin → q / 64 + 1 < n → word_in table q < 2 ^ 64
  word_small q table is room = rw (is, word_is f s n q begin room) (given-lt f s 64 (times f q begin))

module _ (s : ℕ) (taps : List ℕ) (n : ℕ) where
  pub read_from : (begin from cycle : ℕ) (table : List ℕ) → table ≡ sequence (shift s taps) s n begin → 0 < s → s ≤ 64 → begin < 2 ^ s
      → (from + cycle) / 64 + 1 < n → (q : ℕ) → q < cycle
      → word_in table (from + q) / 2 ^ (64 - s) ≡ times (shift s taps) q (times (shift s taps) from begin)
  read_from begin from cycle table is some le h room q l =
      ap (λ (t : List ℕ). word_in t (from + q) / 2 ^ (64 - s)) is
      ∙ register_is s taps n begin (from + q) le some h (omega (arith, room, l))
      ∙ times-add (shift s taps) from q begin

  pub read : (begin cycle : ℕ) (table : List ℕ) → table ≡ sequence (shift s taps) s n begin → 0 < s → s ≤ 64 → begin < 2 ^ s
      → (0 + cycle) / 64 + 1 < n → (q : ℕ) → q < cycle → word_in table (0 + q) / 2 ^ (64 - s) ≡ times (shift s taps) q begin
  unfolding times
  read begin cycle table is some le h room q l = read_from begin 0 cycle table is some le h room q l

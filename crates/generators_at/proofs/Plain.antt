-- A channel of a signal with at most two generators.
--     lacking_at   a generator that the signal lacks
--     plain_is     where its two stand at a place, the channel is the one there
-- Assumes nothing.
use Prim.Native.Nat.{ℕ, ◌<◌}
use mathlib.Core.Path.{◌≡◌, sym}
use native.Mathlib.Nat.{mod-one, div-eq_of_lt}
use borrow.Author.Tests.{lt-ltb}
use Rattle.registers.specs.Times.{times}
use Rattle.machine.specs.Generators.{Kind, fresh}
use Rattle.machine.specs.Signals.{none, plain}
use Rattle.machine.specs.declared.Mode.TheVariants.{Running}
use Rattle.machine.specs.declared.Generator.{Generator}
use Rattle.machine.specs.declared.Channel.{Channel}
use Rattle.week.specs.declared.Course.{Course}
use Rattle.week.specs.Standing.{in_period, standing_at, generator_at}
use Rattle.week.specs.Week.{chip_x2, line_at, channel_at, idle, plain_courses}
use Rattle.week.proofs.SignalWeeks.{no_line}
use Rattle.generators_at.specs.Inner.{plain_channel}

idle_at : (week w : ℕ) → w < week → standing_at (idle week) w ≡ record { phase = 0; cycles = 0; mode = Running }
unfolding standing_at in_period
idle_at week w h = rw (lt-ltb w week h, mod-one w)

pub lacking_at : (week w : ℕ) → w < week → fresh 0 0 ≡ generator_at none (idle week) w
unfolding generator_at times
lacking_at week w h = rw (idle_at week w h)

module _ (week : ℕ) (first second : Kind) (c d : Course) (chip : Channel → ℕ) (signal prn place : ℕ) (h : place < week) where
  pub plain_is : (f g : Generator) → f ≡ generator_at first c place → g ≡ generator_at second d place
      → plain_channel signal prn place f g ≡ channel_at (plain week first second chip) (plain_courses week c d) signal prn place place
  unfolding line_at
  plain_is f g ef eg =
      λ j. record {
        signal = signal;
        prn = prn;
        place = place;
        epoch = sym (div-eq_of_lt h) j;
        delay = sym (no_line (chip_x2 (plain week first second chip) (plain_courses week c d)) 0 place) j;
        first = ef j;
        second = eg j;
        third = lacking_at week place h j;
        fourth = lacking_at week place h j;
      }

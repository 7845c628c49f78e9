-- Channels at a place.
--     p_is         P
-- Assumes nothing.
use Prim.Native.Nat.{ℕ, ◌/◌}
use mathlib.Core.Path.{◌≡◌}
use Rattle.machine.specs.Signals.{signal_p, x1a, x1b, x2a, x2b}
use Rattle.machine.specs.declared.Generator.{Generator}
use Rattle.machine.specs.declared.Channel.{Channel}
use Rattle.week.specs.Standing.{generator_at}
use Rattle.week.specs.Week.{line_at, channel_at, courses_p, course_x1a, course_x1b, course_x2a, course_x2b}

module _ (prn place : ℕ) where
  pub p_is : (line : ℕ) (first second third fourth : Generator) → line ≡ line_at (signal_p 1) courses_p place
      → first ≡ generator_at x1a course_x1a place → second ≡ generator_at x1b course_x1b place
      → third ≡ generator_at x2a course_x2a place → fourth ≡ generator_at x2b course_x2b place
      → ◌≡◌ {A = Channel} (record {
        signal = 2;
        prn = prn;
        place = place;
        epoch = place / 15345000;
        delay = line;
        first = first;
        second = second;
        third = third;
        fourth = fourth;
      })
      (channel_at (signal_p prn) courses_p 2 prn place place)
  unfolding line_at
  p_is line first second third fourth el ea eb ec ed =
      λ j. record {
        signal = 2;
        prn = prn;
        place = place;
        epoch = place / 15345000;
        delay = el j;
        first = ea j;
        second = eb j;
        third = ec j;
        fourth = ed j;
      }

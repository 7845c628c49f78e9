-- The next chips of a generator as a word, for the contracts of inner functions:
-- `proofs/Ahead.antt` shows them to be the machine's.
-- Assumes nothing.
use Rattle.std.specs.Prelude.{ℕ, ◌+◌, ◌*◌, ◌/◌, ◌^◌}
use Rattle.machine.specs.declared.Mode.{Mode}
use Rattle.machine.specs.declared.Mode.TheVariants.{Running, Held}
use Rattle.channels_at.specs.declared.lines.Next.{Next}

-- 64 times the same digit
abbrev pub all : ℕ → ℕ
all b = b * 0xffffffffffffffff

-- running, those of a word up to the last phase, which is so many phases on; held, the same chip as
-- long as it is held
abbrev pub next_by : Mode → ℕ → ℕ → Next
next_by Running word left = record { word = word; chips = left + 1 }
next_by (Held h) word left = record { word = all (word / 2 ^ 63); chips = h + 1 }

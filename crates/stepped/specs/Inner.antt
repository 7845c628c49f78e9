-- A channel of a signal that is told, and windows, for the contracts of inner functions.
-- Assumes nothing.
use Rattle.std.specs.Prelude.{ℕ, ◌≡◌, List, length}
use Rattle.machine.specs.Signals.{Signal, signal_of}
use Rattle.machine.specs.Machine.{advance, chips}
use Rattle.machine.specs.Ranged.{RangedAs, Ranged}
use Rattle.machine.specs.declared.Channel.{Channel}

-- a channel in range, of the signal that s gives for its PRN
pub record Of (s : ℕ → Signal) (ch : Channel) : Type 0 where
  pub ranged : Ranged ch
  pub named : signal_of ch.signal ch.prn ≡ s ch.prn
  pub fields : RangedAs (s ch.prn) ch

-- a window over a slice: a channel's next chips stand in it, one in each byte, and the channel has moved on by as many steps
abbrev pub WindowFrom : Channel → List ℕ → List ℕ → Channel → Type 0
WindowFrom ch before after next = (next ≡ advance (length before) ch) × (after ≡ chips (length before) ch)

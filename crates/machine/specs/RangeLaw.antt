-- The range law: what a machine that is opened and stepped never leaves.
-- Assumes nothing.
use Rattle.std.specs.Prelude.{ℕ, true, ◌≡◌}
use Rattle.machine.specs.Machine.{step, advance, opened, is_signal, is_prn, in_range}
use Rattle.machine.specs.declared.Channel.{Channel}

-- a channel is in range where it is opened, whatever its signal and PRN
abbrev pub OpenedInRange : Type 0
OpenedInRange = (signal prn : ℕ) → is_signal signal ≡ true → is_prn prn ≡ true → in_range (opened signal prn) ≡ true

-- a channel in range, whoever made it, is in range one step on
abbrev pub SteppedInRange : Type 0
SteppedInRange = (ch : Channel) → in_range ch ≡ true → in_range (step ch) ≡ true

-- and so is one that any number of steps reach from where it was opened
abbrev pub ReachedInRange : Type 0
ReachedInRange = (signal prn n : ℕ) → is_signal signal ≡ true → is_prn prn ≡ true → in_range (advance n (opened signal prn)) ≡ true

-- The law of the week, for every signal and PRN.
-- Assumes nothing.
use Rattle.std.specs.Prelude.{ℕ, suc, ◌%◌, ◌≡◌}
use Rattle.machine.specs.Signals.{signal_of, week_of}
use Rattle.machine.specs.Machine.{step, advance, opened}
use Rattle.machine.specs.declared.Channel.{Channel}
use Rattle.week.specs.Week.{courses_of, channel_at}

-- the channel of a signal and a PRN at place w, each field by division and remainder
abbrev pub channel_of : ℕ → ℕ → ℕ → Channel
channel_of signal prn w = channel_at (signal_of signal prn) (courses_of signal) signal prn w w

-- n steps on from the opened channel the stepped machine is at place n modulo W, with every field of that place
abbrev pub EveryPlace : Type 0
EveryPlace = (signal prn n : ℕ) → advance n (opened signal prn) ≡ channel_of signal prn (n % week_of signal)

-- W steps bring the opened channel back
abbrev pub WeekPasses : Type 0
WeekPasses = (signal prn : ℕ) → advance (week_of signal) (opened signal prn) ≡ opened signal prn

-- and so a step from the last place does, W - 1 steps on
abbrev pub LastStep : Type 0
LastStep = (signal prn n : ℕ) → suc n ≡ week_of signal → step (advance n (opened signal prn)) ≡ opened signal prn

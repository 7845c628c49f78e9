-- How many single steps a seek takes.
-- Assumes nothing.
use Rattle.std.specs.Prelude.{ℕ, min}
use Rattle.machine.specs.Signals.{signal_of}

-- As many as the signal's delay line has bits, or from place 0 on where fewer places lie before: for P the lesser of 37 and the place, each a step of X2A and
-- of X2B. The other signals have no delay line, and a seek of theirs takes none.
abbrev pub single_steps : ℕ → ℕ → ℕ → ℕ
single_steps signal prn place = min (signal_of signal prn).line_bits place

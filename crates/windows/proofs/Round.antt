-- The channel so many places on, round the week, is the one so many steps on.
-- Assumes nothing.
use mathlib.Core.Path.{◌≡◌, sym, ◌∙◌}
use Prim.Native.Nat.{ℕ, ◌+◌, ◌%◌}
use Rattle.machine.specs.Signals.{week_of}
use Rattle.machine.specs.Machine.{opened, advance}
use Rattle.machine.specs.declared.Channel.{Channel}
use Rattle.machine.proofs.Advance.{advance-add}
use Rattle.week.proofs.LawOfTheWeek.{weeks_pass}

pub round_the_week : (signal prn place n : ℕ) (next : Channel) → next ≡ advance ((place + n) % week_of signal) (opened signal prn)
    → next ≡ advance n (advance place (opened signal prn))
round_the_week signal prn place n next is = is ∙ sym (weeks_pass signal prn (place + n)) ∙ advance-add place n (opened signal prn)

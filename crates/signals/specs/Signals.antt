-- The signals by their numbers, and what a number is taken for.
-- Assumes nothing.
use Rattle.std.specs.Prelude.{ℕ, Result, ◌≡◌, true, false, MatchResult}
use Rattle.machine.specs.Machine.{is_signal}
use Rattle.refusals.specs.declared.Refusal.{Refusal}
use Rattle.refusals.specs.declared.Refusal.TheVariants as refusals
use Rattle.signals.specs.declared.Signal.{Signal}
use Rattle.signals.specs.declared.Signal.TheVariants as signals

-- "1 C/A, 2 P, 3 L2 CM, 4 L2 CL, 5 I5, 6 Q5."
abbrev pub number_of : Signal → ℕ
number_of signals.Ca = 1
number_of signals.P = 2
number_of signals.L2Cm = 3
number_of signals.L2Cl = 4
number_of signals.I5 = 5
number_of signals.Q5 = 6

-- the signal of that number, or refusal 1 where none has it
abbrev pub TakesSignal : ℕ → Result Signal Refusal → Type 0
TakesSignal n r = MatchResult r (λ s. (is_signal n ≡ true) × (number_of s ≡ n)) (λ e. (is_signal n ≡ false) × (e ≡ refusals.Signal))

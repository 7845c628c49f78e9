-- The test of two channels, field by field.
--     equal   where it passes, they are the same channel
--     passes  and it passes where they are
-- Assumes nothing.
use mathlib.Core.Bool.{Bool, true, false, ◌&&◌}
use mathlib.Core.Path.{◌≡◌, refl, ap}
use lib.Dec.{eqb}
use borrow.Author.Tests.{eqb-true, eq-eqb}
use Rattle.machine.specs.declared.Mode.{Mode}
use Rattle.machine.specs.declared.Mode.TheVariants.{Running, Held}
use Rattle.machine.specs.declared.Generator.{Generator}
use Rattle.machine.specs.declared.Channel.{Channel}
use Rattle.machine.proofs.Tests.{both_left, both_right, both_true}

abbrev same_mode : Mode → Mode → Bool
same_mode Running Running = true
same_mode (Held h) (Held k) = eqb h k
same_mode Running (Held k) = false
same_mode (Held h) Running = false

abbrev same_generator : Generator → Generator → Bool
same_generator a b = eqb a.register b.register && (eqb a.phase b.phase && (eqb a.cycles b.cycles && same_mode a.mode b.mode))

abbrev pub same_channel : Channel → Channel → Bool
same_channel a b =
    eqb a.signal b.signal
    && (eqb a.prn b.prn
    && (eqb a.place b.place
    && (eqb a.epoch b.epoch
    && (eqb a.delay b.delay
    && (same_generator a.first b.first
    && (same_generator a.second b.second
    && (same_generator a.third b.third
    && same_generator a.fourth b.fourth)))))))

equal_mode : (a b : Mode) → same_mode a b ≡ true → a ≡ b
equal_mode Running Running e = refl
equal_mode (Held h) (Held k) e = ap Held (eqb-true h k e)
equal_mode Running (Held k) e = cc
equal_mode (Held h) Running e = cc

equal_generator : (a b : Generator) → same_generator a b ≡ true → a ≡ b
equal_generator a b e =
    let r = both_right (eqb a.register b.register) (eqb a.phase b.phase && (eqb a.cycles b.cycles && same_mode a.mode b.mode)) e in
    let p = both_right (eqb a.phase b.phase) (eqb a.cycles b.cycles && same_mode a.mode b.mode) r in
    let registers = eqb-true a.register b.register (both_left (eqb a.register b.register) _ e) in
    let phases = eqb-true a.phase b.phase (both_left (eqb a.phase b.phase) _ r) in
    let cycles = eqb-true a.cycles b.cycles (both_left (eqb a.cycles b.cycles) _ p) in
    let modes = equal_mode a.mode b.mode (both_right (eqb a.cycles b.cycles) _ p) in
    λ j. record { register = registers j; phase = phases j; cycles = cycles j; mode = modes j }

same_generators : (a b : Channel) → Bool
same_generators a b =
    same_generator a.first b.first
    && (same_generator a.second b.second
    && (same_generator a.third b.third
    && same_generator a.fourth b.fourth))

pub equal : (a b : Channel) → same_channel a b ≡ true → a ≡ b
unfolding same_generators
equal a b e =
    let gs = same_generators a b in
    let e₁ = both_right (eqb a.signal b.signal) (eqb a.prn b.prn && (eqb a.place b.place && (eqb a.epoch b.epoch && (eqb a.delay b.delay && gs)))) e in
    let e₂ = both_right (eqb a.prn b.prn) (eqb a.place b.place && (eqb a.epoch b.epoch && (eqb a.delay b.delay && gs))) e₁ in
    let e₃ = both_right (eqb a.place b.place) (eqb a.epoch b.epoch && (eqb a.delay b.delay && gs)) e₂ in
    let e₄ = both_right (eqb a.epoch b.epoch) (eqb a.delay b.delay && gs) e₃ in
    let e₅ = both_right (eqb a.delay b.delay) gs e₄ in
    let e₆ = both_right (same_generator a.first b.first) (same_generator a.second b.second && (same_generator a.third b.third && same_generator a.fourth b.fourth)) e₅ in
    let e₇ = both_right (same_generator a.second b.second) (same_generator a.third b.third && same_generator a.fourth b.fourth) e₆ in
    let signals = eqb-true a.signal b.signal (both_left (eqb a.signal b.signal) _ e) in
    let prns = eqb-true a.prn b.prn (both_left (eqb a.prn b.prn) _ e₁) in
    let places = eqb-true a.place b.place (both_left (eqb a.place b.place) _ e₂) in
    let epochs = eqb-true a.epoch b.epoch (both_left (eqb a.epoch b.epoch) _ e₃) in
    let lines = eqb-true a.delay b.delay (both_left (eqb a.delay b.delay) _ e₄) in
    let firsts = equal_generator a.first b.first (both_left (same_generator a.first b.first) _ e₅) in
    let seconds = equal_generator a.second b.second (both_left (same_generator a.second b.second) _ e₆) in
    let thirds = equal_generator a.third b.third (both_left (same_generator a.third b.third) _ e₇) in
    let fourths = equal_generator a.fourth b.fourth (both_right (same_generator a.third b.third) _ e₇) in
    λ j. record {
      signal = signals j;
      prn = prns j;
      place = places j;
      epoch = epochs j;
      delay = lines j;
      first = firsts j;
      second = seconds j;
      third = thirds j;
      fourth = fourths j;
    }

-- ---- the other way

same_generator_self : (a : Generator) → same_generator a a ≡ true
same_generator_self a =
    both_true (eq-eqb a.register a.register refl) (both_true (eq-eqb a.phase a.phase refl) (both_true (eq-eqb a.cycles a.cycles refl) (itself a.mode)))
  where
    itself : (m : Mode) → same_mode m m ≡ true
    itself Running = refl
    itself (Held h) = eq-eqb h h refl

pub passes : (a b : Channel) → a ≡ b → same_channel a b ≡ true
passes a b e = rw (← e)
    (both_true (eq-eqb a.signal a.signal refl)
    (both_true (eq-eqb a.prn a.prn refl)
    (both_true (eq-eqb a.place a.place refl)
    (both_true (eq-eqb a.epoch a.epoch refl)
    (both_true (eq-eqb a.delay a.delay refl)
    (both_true (same_generator_self a.first)
    (both_true (same_generator_self a.second)
    (both_true (same_generator_self a.third) (same_generator_self a.fourth)))))))))

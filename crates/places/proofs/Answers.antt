-- What each call answers where it answers, and what is known then.
--     reading_answers, place_answers, gap_answers
--     reading_accepted, place_accepted, gap_accepted   what is known where a call is accepted
-- Assumes nothing.
use Prim.Native.Nat.{ℕ, ◌+◌, ◌*◌, ◌/◌, ◌%◌, ◌<◌}
use mathlib.Core.Bool.{Bool, true, false, cond, ◌&&◌}
use mathlib.Core.Path.{◌≡◌, refl, ap}
use lib.Dec.{ltb}
use lib.IntN.{ℤ, pos, ◌-ℤ◌}
use borrow.Author.Tests.{ltb-true, lt-ltb}
use Rattle.machine.specs.Signals.{week_of}
use Rattle.machine.specs.Machine.{is_signal}
use Rattle.places.specs.Places.{answer, refusal, epochs, epoch_chips, reading_reply, place_of_reply, folded, gap_reply}

-- ---- reading

module _ (signal place : ℕ) where
  pub reading_answers : is_signal signal ≡ true → place < week_of signal
      → reading_reply signal place ≡ answer (place / epoch_chips signal, place % epoch_chips signal)
  unfolding reading_reply
  reading_answers listed place_in = simp (listed, lt-ltb place (week_of signal) place_in)

pub reading_accepted : (signal place epoch chip : ℕ) → reading_reply signal place ≡ answer (epoch, chip)
    → (is_signal signal ≡ true) × (place < week_of signal) × (place / epoch_chips signal ≡ epoch) × (place % epoch_chips signal ≡ chip)
unfolding reading_reply
reading_accepted signal place epoch chip e =
    let read : ℕ × ℕ = (place / epoch_chips signal, place % epoch_chips signal) in
    let known = by (is_signal signal) (ltb place (week_of signal)) read e in
    (known.0, ltb-true place (week_of signal) known.1, ap (λ (p : ℕ × ℕ). p.0) known.2, ap (λ (p : ℕ × ℕ). p.1) known.2)
  where
    by : (s t : Bool) (p : ℕ × ℕ) → cond s (cond t (answer p) (refusal 3)) (refusal 1) ≡ answer (epoch, chip)
        → (s ≡ true) × (t ≡ true) × (p ≡ (epoch, chip))
    by true true p e = (refl, refl, cc)
    by true false p e = (refl, cc, cc)
    by false t p e = (cc, cc, cc)

-- ---- place of

module _ (signal epoch chip : ℕ) where
  pub place_answers : is_signal signal ≡ true → epoch < epochs → chip < epoch_chips signal
      → place_of_reply signal epoch chip ≡ answer (epoch * epoch_chips signal + chip)
  unfolding place_of_reply
  place_answers listed epoch_in chip-in = simp (listed, lt-ltb epoch epochs epoch_in, lt-ltb chip (epoch_chips signal) chip-in)

pub place_accepted : (signal epoch chip place : ℕ) → place_of_reply signal epoch chip ≡ answer place
    → (is_signal signal ≡ true) × (epoch < epochs) × (chip < epoch_chips signal) × (epoch * epoch_chips signal + chip ≡ place)
unfolding place_of_reply
place_accepted signal epoch chip place e =
    let known = by (is_signal signal) (ltb epoch epochs) (ltb chip (epoch_chips signal)) (epoch * epoch_chips signal + chip) e in
    (known.0, ltb-true epoch epochs known.1, ltb-true chip (epoch_chips signal) known.2, known.3)
  where
    by : (s t u : Bool) (x : ℕ) → cond s (cond t (cond u (answer x) (refusal 8)) (refusal 7)) (refusal 1) ≡ answer place
        → (s ≡ true) × (t ≡ true) × (u ≡ true) × (x ≡ place)
    by true true true x e = (refl, refl, refl, cc)
    by true true false x e = (refl, refl, cc, cc)
    by true false u x e = (refl, cc, cc, cc)
    by false t u x e = (cc, cc, cc, cc)

-- ---- gap

module _ (signal a b : ℕ) where
  pub gap_answers : is_signal signal ≡ true → a < week_of signal → b < week_of signal
      → gap_reply signal a b ≡ answer (folded (week_of signal) (pos b -ℤ pos a))
  unfolding gap_reply
  gap_answers listed a_in b-in = simp (listed, lt-ltb a (week_of signal) a_in, lt-ltb b (week_of signal) b-in)

pub gap_accepted : (signal a b : ℕ) (g : ℤ) → gap_reply signal a b ≡ answer g
    → (is_signal signal ≡ true) × (a < week_of signal) × (b < week_of signal) × (folded (week_of signal) (pos b -ℤ pos a) ≡ g)
unfolding gap_reply
gap_accepted signal a b g e =
    let known = by (is_signal signal) (ltb a (week_of signal)) (ltb b (week_of signal)) (folded (week_of signal) (pos b -ℤ pos a)) e in
    (known.0, ltb-true a (week_of signal) known.1, ltb-true b (week_of signal) known.2, known.3)
  where
    by : (s t u : Bool) (z : ℤ) → cond s (cond (t && u) (answer z) (refusal 3)) (refusal 1) ≡ answer g
        → (s ≡ true) × (t ≡ true) × (u ≡ true) × (z ≡ g)
    by true true true z e = (refl, refl, refl, cc)
    by true true false z e = (refl, refl, cc, cc)
    by true false u z e = (refl, cc, cc, cc)
    by false t u z e = (cc, cc, cc, cc)

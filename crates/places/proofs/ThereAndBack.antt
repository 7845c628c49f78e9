-- THERE AND BACK: Reading and Place of undo each other, for every signal, place, epoch and chip.
--     there   where Reading answers an epoch and a chip, Place of answers of these the place that was read
--     back    where Place of answers a place, Reading answers of it the epoch and the chip
-- Assumes nothing.
use Prim.Native.Nat.{ℕ, ◌+◌, ◌*◌, ◌/◌, ◌%◌, ◌<◌}
use mathlib.Core.Path.{◌≡◌, sym, ap, ap₂, subst, ◌∙◌}
use native.Mathlib.Nat.{mod-lt, mod-eq_of_lt, div-add-mod', div-eq_of_lt, div-lt_iff_lt-mul, mul-add-div_right, mul-add-mod_self_right, add-zero}
use Rattle.machine.specs.Signals.{week_of}
use Rattle.places.specs.Places.{answer, epochs, epoch_chips, reading_reply, place_of_reply}
use Rattle.places.proofs.Answers.{reading_answers, reading_accepted, place_answers, place_accepted}
use Rattle.places.proofs.Epochs.{week_by_epochs, some_chips, place_below}

module _ (signal place epoch chip : ℕ) where
  pub there : reading_reply signal place ≡ answer (epoch, chip) → place_of_reply signal epoch chip ≡ answer place
  there e =
      let chips = epoch_chips signal in
      let known = reading_accepted signal place epoch chip e in
      let place_in : place < epochs * chips = subst (λ (w : ℕ). place < w) (week_by_epochs signal known.0) known.1 in
      let epoch_in : epoch < epochs = subst (λ (t : ℕ). t < epochs) known.2 ((div-lt_iff_lt-mul (some_chips signal)).1 place_in) in
      let chip-in : chip < chips = subst (λ (c : ℕ). c < chips) known.3 (mod-lt place (some_chips signal)) in
      let whole : epoch * chips + chip ≡ place = ap₂ (λ (t c : ℕ). t * chips + c) (sym known.2) (sym known.3) ∙ div-add-mod' place chips in
      place_answers signal epoch chip known.0 epoch_in chip-in ∙ ap answer whole

  pub back : place_of_reply signal epoch chip ≡ answer place → reading_reply signal place ≡ answer (epoch, chip)
  back e =
      let chips = epoch_chips signal in
      let known = place_accepted signal epoch chip place e in
      let whole : place ≡ epoch * chips + chip = sym known.3 in
      let below : place < epochs * chips = subst (λ (n : ℕ). n < epochs * chips) known.3 (place_below chips epochs epoch chip known.1 known.2) in
      let place_in : place < week_of signal = subst (λ (w : ℕ). place < w) (sym (week_by_epochs signal known.0)) below in
      let is-epoch : place / chips ≡ epoch =
      ap (λ (n : ℕ). n / chips) whole ∙ mul-add-div_right (some_chips signal) epoch chip ∙ ap (λ (n : ℕ). epoch + n) (div-eq_of_lt known.2) ∙ add-zero epoch
      in
      let is-chip : place % chips ≡ chip =
      ap (λ (n : ℕ). n % chips) whole ∙ mul-add-mod_self_right epoch chips chip ∙ mod-eq_of_lt known.2
      in
      reading_answers signal place known.0 place_in ∙ ap₂ (λ (t c : ℕ). answer (t, c)) is-epoch is-chip

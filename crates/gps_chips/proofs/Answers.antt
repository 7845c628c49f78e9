-- What Chips answers and writes.
--     fits      a call that nothing refuses is answered 0
--     filled    and leaves the machine's chips
--     agree     the buffer filled by the machine is the buffer filled by the standards, whatever the call
-- Assumes nothing.
use mathlib.Core.Bool.{Bool, true, false, cond}
use mathlib.Core.List.{List}
use mathlib.Core.Path.{◌≡◌, refl, sym}
use Prim.Native.Nat.{ℕ, ◌≤◌, ◌<◌}
use native.Mathlib.Omega.{arith}
use lib.Dec.{ltb, leb, eqb}
use lib.ListN.{length}
use borrow.Author.Tests.{ltb-true, leb-true, eqb-true, lt-ltb, le-leb}
use Rattle.machine.specs.Signals.{week_of}
use Rattle.machine.specs.Machine.{opened, advance, chips, is_signal, is_prn}
use Rattle.standard.proofs.EveryChip.{every_window}
use Rattle.call_window.specs.Window.{most_chips}
use Rattle.gps_chips.specs.Chips.{chips_answer, chips_buffer, by_the_machine, by_the_standards}

module _ (signal prn place n : ℕ) where
  pub record Admitted : Type 0 where
    pub is_signal : is_signal signal ≡ true
    pub is_prn : is_prn prn ≡ true
    pub within : place < week_of signal
    pub short : n ≤ most_chips

  pub fits : Admitted → 0 ≡ chips_answer signal prn place n
  unfolding chips_answer
  fits a = simp (a.is_signal, a.is_prn, lt-ltb place (week_of signal) a.within, le-leb n most_chips a.short)

  none_refused : chips_answer signal prn place n ≡ 0 → Admitted
  unfolding chips_answer
  none_refused = by (is_signal signal) refl (is_prn prn) refl (ltb place (week_of signal)) refl (leb n most_chips) refl
    where
      by : (s : Bool) → is_signal signal ≡ s → (p : Bool) → is_prn prn ≡ p → (w : Bool) → ltb place (week_of signal) ≡ w → (l : Bool) → leb n most_chips ≡ l
          → ◌≡◌ {A = ℕ} (cond s (cond p (cond w (cond l 0 5) 3) 2) 1) 0 → Admitted
      by true s true p true w true l e =
          record { is_signal = s; is_prn = p; within = ltb-true place (week_of signal) w; short = leb-true n most_chips l }
      by true s true p true w false l e = absurd (omega (arith, e))
      by true s true p false w l' l e = absurd (omega (arith, e))
      by true s false p w' w l' l e = absurd (omega (arith, e))
      by false s p' p w' w l' l e = absurd (omega (arith, e))

module _ (signal prn place : ℕ) (buffer : List ℕ) where
  pub agree : chips_buffer by_the_machine signal prn place buffer ≡ chips_buffer by_the_standards signal prn place buffer
  unfolding chips_buffer
  agree = by (eqb (chips_answer signal prn place n) 0) refl
    where
      n : ℕ
      n = length buffer

      by : (t : Bool) → eqb (chips_answer signal prn place n) 0 ≡ t
          → cond t (by_the_machine signal prn place n) buffer ≡ cond t (by_the_standards signal prn place n) buffer
      by true e =
          let a = none_refused signal prn place n (eqb-true (chips_answer signal prn place n) 0 e) in
          every_window signal prn a.is_signal a.is_prn n place
      by false e = refl

  -- the chips from that place
  pub filled : Admitted signal prn place (length buffer) → (after : List ℕ)
      → after ≡ chips (length buffer) (advance place (opened signal prn)) → after ≡ chips_buffer by_the_machine signal prn place buffer
  unfolding chips_buffer
  filled a after is =
      let none : chips_answer signal prn place (length buffer) ≡ 0 = sym (fits signal prn place (length buffer) a) in
      simp none is

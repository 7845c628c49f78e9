-- Each chip of each signal, PRN 1 to 37, at each place of the week is that of IS-GPS-200 or IS-GPS-705.
--     every_chip    `Laws.antt: EveryChip`
--     every_window  `Laws.antt: EveryWindow`
-- `standard` is the chip as the standards write it (`specs/Standard.antt`); `opened`, `advance` and `chip` are the stepped machine's
-- (`machine/specs/Machine.antt`). That the calls hand out these chips is said by their contracts and, of whole lists of calls, by `lists/specs/Lists.antt`.
-- Assumes nothing.
use mathlib.Core.List.{List, ◌∷◌, map}
use mathlib.Core.Path.{◌≡◌, refl, ap, ap₂, ◌∙◌}
use mathlib.Core.Bool.{true}
use Prim.Native.Nat.{ℕ, zero, suc, ◌-◌, ◌%◌, ◌<◌}
use native.Mathlib.Nat.{mod-lt, mod-mod}
use native.Mathlib.Omega.{arith}
use Rattle.machine.specs.Signals.{week_of, signal_of, places_from}
use Rattle.machine.specs.Machine.{advance, opened, chip, is_signal, is_prn}
use Rattle.machine.proofs.Ranges.{signal_in, prn_in}
use Rattle.machine.proofs.Numbered.{chip_is}
use Rattle.week.specs.Week.{courses_of, channel_at}
use Rattle.week.proofs.SignalWeeks.{week_of_lem}
use Rattle.week.proofs.LawOfTheWeek.{law_of_the_week}
use Rattle.week.proofs.RoundTheWeek.{chips_round}
use Rattle.standard.specs.Standard.{standard}
use Rattle.standard.specs.Laws.{EveryChip, EveryWindow}
use Rattle.standard.proofs.ChipBySignal.{in_order}

pub every_chip : EveryChip
unfolding standard
every_chip signal prn n signal_ok prn_ok =
    let w : ℕ = n % week_of signal in
    let within : w < week_of signal = mod-lt n (week_of_lem signal 1).week_some in
    ap chip (law_of_the_week signal prn n)
    ∙ chip_is (channel_at (signal_of signal prn) (courses_of signal) signal prn w w) refl
    ∙ in_order (signal - 1) signal prn w (omega (arith, (signal_in signal signal_ok).1)) (prn_in prn prn_ok) within

module _ (signal prn : ℕ) (signal_ok : is_signal signal ≡ true) (prn_ok : is_prn prn ≡ true) where
  at_places : (n p : ℕ)
      → map (λ (place : ℕ). chip (advance place (opened signal prn))) (places_from (week_of signal) p n) ≡ map (standard signal prn) (places_from (week_of signal) p n)
  unfolding places_from
  at_places zero p = refl
  at_places (suc n) p =
      ap₂ (λ (b : ℕ) (bs : List ℕ). b ∷ bs)
      (every_chip signal prn (p % week_of signal) signal_ok prn_ok ∙ ap (standard signal prn) (mod-mod p (week_of signal)))
      (at_places n (suc p))

pub every_window : EveryWindow
every_window signal prn signal_ok prn_ok n p = chips_round signal prn n p ∙ at_places signal prn signal_ok prn_ok n p

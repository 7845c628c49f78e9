-- The week by epochs.
--     week_by_epochs   W is 403,200 times E, for every signal
--     some_chips, few_chips, week_even, week_some   how large E and W are
--     place_below      a chip of an epoch lies in the week
-- Assumes nothing.
use Prim.Native.Nat.{ℕ, zero, suc, ◌+◌, ◌*◌, ◌%◌, ◌≤◌, ◌<◌}
use mathlib.Core.Bool.{true, ◌||◌}
use mathlib.Core.Path.{◌≡◌, refl}
use native.Mathlib.Nat.{mul-le-mul_right}
use native.Mathlib.Omega.{arith}
use lib.Dec.{eqb, lit≤, lit<}
use Rattle.machine.specs.Signals.{week_of}
use Rattle.machine.specs.Machine.{is_signal}
use Rattle.machine.proofs.Tests.{chosen}
use Rattle.machine.proofs.Ranges.{signal_in}
use Rattle.places.specs.Places.{epochs, epoch_chips}

pub week_by_epochs : (signal : ℕ) → is_signal signal ≡ true → week_of signal ≡ epochs * epoch_chips signal
week_by_epochs zero e = let none = signal_in zero e in absurd (omega (arith, none.0))
week_by_epochs (suc zero) e = refl
week_by_epochs (suc (suc zero)) e = refl
week_by_epochs (suc (suc (suc zero))) e = refl
week_by_epochs (suc (suc (suc (suc zero)))) e = refl
week_by_epochs (suc (suc (suc (suc (suc zero))))) e = refl
week_by_epochs (suc (suc (suc (suc (suc (suc zero)))))) e = refl
week_by_epochs (suc (suc (suc (suc (suc (suc (suc n))))))) e =
    let none = signal_in (suc (suc (suc (suc (suc (suc (suc n))))))) e in absurd (omega (arith, none.1))

-- ---- sizes

-- what holds of the three numbers of chips holds of E
of_each : (P : ℕ → Type 0) → P 1534500 → P 767250 → P 15345000 → (signal : ℕ) → P (epoch_chips signal)
of_each P ca l2 rest signal = chosen P (eqb signal 1) (λ t. ca) (λ t. chosen P (eqb signal 3 || eqb signal 4) (λ u. l2) (λ u. rest))

pub some_chips : (signal : ℕ) → 0 < epoch_chips signal
some_chips signal = of_each (λ (e : ℕ). 0 < e) (lit< tt) (lit< tt) (lit< tt) signal

pub few_chips : (signal : ℕ) → epoch_chips signal ≤ 15345000
few_chips signal = of_each (λ (e : ℕ). e ≤ 15345000) (lit≤ tt) (lit≤ tt) (lit≤ tt) signal

pub week_even : (signal : ℕ) → is_signal signal ≡ true → week_of signal % 2 ≡ 0
week_even signal e = omega (arith, week_by_epochs signal e)

pub week_some : (signal : ℕ) → is_signal signal ≡ true → 0 < week_of signal
week_some signal e = omega (arith, week_by_epochs signal e, some_chips signal)

-- chip c of epoch t, of n epochs of e chips
pub place_below : (e n t c : ℕ) → t < n → c < e → t * e + c < n * e
place_below e n t c h k = omega (arith, mul-le-mul_right e h, k)

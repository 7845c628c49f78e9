-- Words of chips.
--     all_tells   64 times the same digit
--     sum_tells   the digits of two words added bit by bit are the sums of their digits modulo 2
-- Assumes nothing.
use Prim.Native.Nat.{ℕ, zero, suc, ◌+◌, ◌-◌, ◌/◌, ◌%◌, ◌^◌, ◌<◌}
use mathlib.Core.Path.{◌≡◌, sym, ap, ap₂, ◌∙◌}
use native.Mathlib.Omega.{arith}
use lib.Bits.{bit_xor, xor_shr}
use Rattle.registers.proofs.Xor.{low, xor_low}
use Rattle.registers.proofs.Below.{equal_at}
use Rattle.registers.proofs.Shifts.{sum_digit}
use Rattle.sequences.specs.Sequences.{Tells}
use Rattle.channels_at.specs.Next.{all}

pub all_tells : (b : ℕ) → b < 2 → Tells (all b) 64 (λ i. b)
all_tells zero h j l = zeros (63 - j)
  where
    zeros : (n : ℕ) → 0 / 2 ^ n % 2 ≡ 0
    zeros n = ap (λ (x : ℕ). x % 2) (native.Mathlib.Nat.zero-div (2 ^ n))
all_tells (suc zero) h j l = equal_at 64 (λ j. all 1 / 2 ^ (63 - j) % 2) (λ j. 1) tt j l
all_tells (suc (suc b)) h j l = absurd (omega (arith, h))

pub sum_tells : (k w v : ℕ) (x y : ℕ → ℕ) → Tells w k x → Tells v k y → Tells (bit_xor w v) k (λ i. (x i + y i) % 2)
sum_tells k w v x y tw tv i l =
    let m = 63 - i in
    ap (λ (z : ℕ). z % 2) (xor_shr w v m)
    ∙ xor_low (w / 2 ^ m) (v / 2 ^ m)
    ∙ sym (sum_digit (low (w / 2 ^ m)) (low (v / 2 ^ m)))
    ∙ ap₂ (λ (a b : ℕ). (a + b) % 2) (tw i l) (tv i l)

-- The mask of each register has its taps, which `refl` computes at each power of two.
-- Assumes nothing.
use Rattle.std.proofs.Common.{ℕ, ◌+◌, ◌*◌, ◌%◌, ◌^◌, ◌<◌, ◌≡◌, refl}
use Rattle.std.specs.Int.Bits.{bit_and}
use Rattle.std.specs.Int.Count.{ones}
use lib.Count.{ones_in}
use Rattle.registers.specs.Register.{stage, sum_of, shift_g1, shift_g2, shift_x1a, shift_x1b, shift_x2a, shift_x2b, shift_xa, shift_xb}
use Rattle.registers.specs.Register.{taps_g1, taps_g2, taps_x1a, taps_x1b, taps_x2a, taps_x2b, taps_xa, taps_xb}
use Rattle.registers.proofs.Linear.{columns}
use Rattle.registers.proofs.Masks.{masked}

pub g1_masked : (r : ℕ) → r < 2 ^ 10 → r % 0b10_0000_0000 * 2 + ones (bit_and r 0b10_0000_0100) % 2 ≡ shift_g1 r
unfolding ones ones_in columns sum_of stage
g1_masked = masked 10 0b10_0000_0100 taps_g1 refl

pub g2_masked : (r : ℕ) → r < 2 ^ 10 → r % 0b10_0000_0000 * 2 + ones (bit_and r 0b11_1010_0110) % 2 ≡ shift_g2 r
unfolding ones ones_in columns sum_of stage
g2_masked = masked 10 0b11_1010_0110 taps_g2 refl

pub x1a_masked : (r : ℕ) → r < 2 ^ 12 → r % 0b1000_0000_0000 * 2 + ones (bit_and r 0b1100_1010_0000) % 2 ≡ shift_x1a r
unfolding ones ones_in columns sum_of stage
x1a_masked = masked 12 0b1100_1010_0000 taps_x1a refl

pub x1b_masked : (r : ℕ) → r < 2 ^ 12 → r % 0b1000_0000_0000 * 2 + ones (bit_and r 0b1111_1001_0011) % 2 ≡ shift_x1b r
unfolding ones ones_in columns sum_of stage
x1b_masked = masked 12 0b1111_1001_0011 taps_x1b refl

pub x2a_masked : (r : ℕ) → r < 2 ^ 12 → r % 0b1000_0000_0000 * 2 + ones (bit_and r 0b1111_1101_1101) % 2 ≡ shift_x2a r
unfolding ones ones_in columns sum_of stage
x2a_masked = masked 12 0b1111_1101_1101 taps_x2a refl

pub x2b_masked : (r : ℕ) → r < 2 ^ 12 → r % 0b1000_0000_0000 * 2 + ones (bit_and r 0b1001_1000_1110) % 2 ≡ shift_x2b r
unfolding ones ones_in columns sum_of stage
x2b_masked = masked 12 0b1001_1000_1110 taps_x2b refl

pub xa_masked : (r : ℕ) → r < 2 ^ 13 → r % 0b1_0000_0000_0000 * 2 + ones (bit_and r 0b1_1011_0000_0000) % 2 ≡ shift_xa r
unfolding ones ones_in columns sum_of stage
xa_masked = masked 13 0b1_1011_0000_0000 taps_xa refl

pub xb_masked : (r : ℕ) → r < 2 ^ 13 → r % 0b1_0000_0000_0000 * 2 + ones (bit_and r 0b1_1000_1110_1101) % 2 ≡ shift_xb r
unfolding ones ones_in columns sum_of stage
xb_masked = masked 13 0b1_1000_1110_1101 taps_xb refl

-- G1 and G2 by place.
--     sum_same   the sum of the two, each round its cycle from its phase on, is the standard's C/A, round the week
-- Assumes nothing.
use Rattle.std.proofs.Common.{◌≡◌, ℕ, ◌+◌, ◌-◌, ◌%◌, arith, sym, ap, ap₂, ◌∙◌}
use Rattle.registers.specs.Times.{times}
use Rattle.registers.specs.Register.{stage, shift_g1, shift_g2}
use Rattle.starts.specs.Starts.{start_g1, start_g2}
use Rattle.standard.specs.Standard.{g1, g2}
use Rattle.standard.proofs.SameRegisters.{g1_chip, g2_chip}

-- the chips of the machine's registers from their starts
abbrev pub chip_g1 : ℕ → ℕ
chip_g1 n = stage 10 (times shift_g1 n start_g1)

abbrev pub chip_g2 : ℕ → ℕ
chip_g2 n = stage 10 (times shift_g2 n start_g2)

-- the chip of C/A at a time of the week, by the delay of G2
abbrev pub code : ℕ → ℕ → ℕ
code delay t = (g1 t + g2 (t + (1023 - delay))) % 2

pub sum_same : (delay place j : ℕ)
    → (chip_g1 ((place % 1023 + j) % 1023) + chip_g2 (((place + (1023 - delay)) % 1023 + j) % 1023)) % 2 ≡ code delay ((place + j) % 618710400000)
sum_same delay place j =
    let t = (place + j) % 618710400000 in
    let first : (place % 1023 + j) % 1023 ≡ t % 1023 = omega arith in
    let second : ((place + (1023 - delay)) % 1023 + j) % 1023 ≡ (t + (1023 - delay)) % 1023 = omega arith in
    ap₂ (λ a b. (a + b) % 2) (ap chip_g1 first ∙ sym (g1_chip (t % 1023))) (ap chip_g2 second ∙ sym (g2_chip ((t + (1023 - delay)) % 1023)))

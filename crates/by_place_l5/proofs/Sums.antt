-- XA and XB by place.
--     sum_same           in a period the sum of the two, each round its cycle from its phase on, is the code, round the week
--     i5_same, q5_same   the code by the advance of a PRN is the standard's I5 or Q5
-- Assumes nothing.
use Rattle.std.proofs.Common.{◌≡◌, ℕ, ◌+◌, ◌%◌, ◌<◌, List, map, arith, sym, ap, ap₂, ◌∙◌}
use Rattle.registers.specs.Times.{times}
use Rattle.registers.specs.Register.{stage, shift_xa, shift_xb}
use Rattle.starts.specs.Starts.{start_xa, entry_of, advances_i5, advances_q5, advanced_xb}
use Rattle.standard.specs.Standard.{standard}
use Rattle.standard.specs.Tables.{of_prn}
use Rattle.standard.proofs.SameRegisters.{xa_chip, xb_chip, lists_same}
use Rattle.standard.proofs.Sequences.{advanced}
use Rattle.by_place_l5.specs.Codes.{code_l5}

-- the chips of the machine's registers from all ones
abbrev pub chip_xa : ℕ → ℕ
chip_xa n = stage 13 (times shift_xa n start_xa)

abbrev pub chip_xb : ℕ → ℕ
chip_xb n = stage 13 (times shift_xb n 8191)

-- the chip so many places on, round the week
abbrev pub chip_on : ℕ → ℕ → ℕ → ℕ
chip_on advance place j = code_l5 advance ((place + j) % 6187104000000)

-- XB comes round after 8,191 chips
xb_round : (n : ℕ) → chip_xb (n % 8191) ≡ chip_xb n
unfolding advanced_xb times
xb_round n =
    let none : 0 + n ≡ n = omega arith in
    ap (stage 13) (advanced 0 n) ∙ ap chip_xb none

pub sum_same : (advance place at here j : ℕ) → here ≡ (place + at) % 10230 → here + j < 10230
    → (chip_xa ((here % 8190 + j) % 8190) + chip_xb (((advance + here) % 8191 + j) % 8191)) % 2 ≡ chip_on advance place (at + j)
sum_same advance place at here j e h =
    let t = (place + (at + j)) % 6187104000000 in
    let there : here + j ≡ t % 10230 = omega (arith, e, h) in
    let first : (here % 8190 + j) % 8190 ≡ (here + j) % 8190 = omega arith in
    let second : ((advance + here) % 8191 + j) % 8191 ≡ (advance + (here + j)) % 8191 = omega arith in
    ap₂ (λ a b. (a + b) % 2)
    (ap chip_xa first ∙ ap (λ n. chip_xa (n % 8190)) there ∙ sym (xa_chip (t % 10230 % 8190)))
    (ap chip_xb second ∙ xb_round (advance + (here + j)) ∙ ap (λ n. chip_xb (advance + n)) there ∙ sym (xb_chip (advance + t % 10230)))

module _ (prn : ℕ) (places : List ℕ) where
  pub i5_same : map (code_l5 (entry_of advances_i5 prn)) places ≡ map (standard 5 prn) places
  unfolding standard
  i5_same = ap (λ (l : List ℕ). map (code_l5 (of_prn l prn)) places) (sym lists_same.2)

  pub q5_same : map (code_l5 (entry_of advances_q5 prn)) places ≡ map (standard 6 prn) places
  unfolding standard
  q5_same = ap (λ (l : List ℕ). map (code_l5 (of_prn l prn)) places) (sym lists_same.3)

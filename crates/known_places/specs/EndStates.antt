-- The states that IS-GPS-200L prints of registers at the end of a cycle: of L2 CM and L2 CL in Table 3-IIa, of P's four in Table 3-VII. The latter counts
-- chips from 1, and phases are counted from 0. `tests/standards/run.sh` compares the lists with the table.
-- Assumes nothing.
use Rattle.std.specs.Prelude.{ℕ, ◌≡◌, List, [], ◌∷◌}
use Rattle.registers.specs.Times.{times}
use Rattle.registers.specs.Register.{shift_x1a, shift_x1b, shift_x2a, shift_x2b, shift_l2}
use Rattle.starts.specs.Starts.{Listed, entry_of, start_x1a, start_x1b, start_x2a, start_x2b, start_cm, start_cl}

-- ---- Table 3-IIa, "End Shift Register State (Octal)"

-- L2 CM
unfoldable pub ends_cm : List ℕ
ends_cm =
    0o552566002 ∷ 0o034445034 ∷ 0o723443711 ∷ 0o511222013 ∷ 0o463055213 ∷ 0o667044524 ∷ 0o652322653 ∷ 0o505703344 ∷ 0o520302775 ∷ 0o244205506 ∷
    0o236174002 ∷ 0o654305531 ∷ 0o435070571 ∷ 0o630431251 ∷ 0o234043417 ∷ 0o535540745 ∷ 0o043056734 ∷ 0o731304103 ∷ 0o412120105 ∷ 0o365636111 ∷
    0o143324657 ∷ 0o110766462 ∷ 0o602405203 ∷ 0o177735650 ∷ 0o630177560 ∷ 0o653467107 ∷ 0o406576630 ∷ 0o221777100 ∷ 0o773266673 ∷ 0o100010710 ∷
    0o431037132 ∷ 0o624127475 ∷ 0o154624012 ∷ 0o275636742 ∷ 0o644341556 ∷ 0o514260662 ∷ 0o133501670 ∷ []

-- L2 CL
unfoldable pub ends_cl : List ℕ
ends_cl =
    0o267724236 ∷ 0o167516066 ∷ 0o771756405 ∷ 0o047202624 ∷ 0o052770433 ∷ 0o761743665 ∷ 0o133015726 ∷ 0o610611511 ∷ 0o352150323 ∷ 0o051266046 ∷
    0o305611373 ∷ 0o504676773 ∷ 0o272572634 ∷ 0o731320771 ∷ 0o631326563 ∷ 0o231516360 ∷ 0o030367366 ∷ 0o713543613 ∷ 0o232674654 ∷ 0o641733155 ∷
    0o730125345 ∷ 0o000316074 ∷ 0o171313614 ∷ 0o001523662 ∷ 0o023457250 ∷ 0o330733254 ∷ 0o625055726 ∷ 0o476524061 ∷ 0o602066031 ∷ 0o012412526 ∷
    0o705144501 ∷ 0o615373171 ∷ 0o041637664 ∷ 0o100107264 ∷ 0o634251723 ∷ 0o257012032 ∷ 0o703702423 ∷ []

-- ---- what holds of them

-- Each register is at the end of its cycle in the state that the standard prints.
pub record EndStates : Type 0 where
  -- Table 3-IIa, PRN 1 to 37: "Short cycled period = 10230", and 767250
  pub cm : (prn : ℕ) → Listed 37 prn → times shift_l2 10229 (start_cm prn) ≡ entry_of ends_cm prn
  pub cl : (prn : ℕ) → Listed 37 prn → times shift_l2 767249 (start_cl prn) ≡ entry_of ends_cl prn
  -- Table 3-VII, chips 4091 and 4092 of X1A and X2A, 4092 and 4093 of X1B and X2B
  pub x1a : (times shift_x1a 4090 start_x1a ≡ 0b100010010010) × (times shift_x1a 4091 start_x1a ≡ 0b000100100100)
  pub x1b : (times shift_x1b 4091 start_x1b ≡ 0b100101010101) × (times shift_x1b 4092 start_x1b ≡ 0b001010101010)
  pub x2a : (times shift_x2a 4090 start_x2a ≡ 0b111001001001) × (times shift_x2a 4091 start_x2a ≡ 0b110010010010)
  pub x2b : (times shift_x2b 4091 start_x2b ≡ 0b000101010101) × (times shift_x2b 4092 start_x2b ≡ 0b001010101010)

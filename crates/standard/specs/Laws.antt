-- What is proved of the standards' chips, law by law: `src/lib.rt` promises each.
-- Assumes nothing.
use Rattle.std.specs.Prelude.{ℕ, ◌%◌, ◌≡◌, true}
use mathlib.Core.List.{map}
use Rattle.registers.specs.Times.{times}
use Rattle.registers.specs.Register.{shift_g1, shift_g2, shift_x1a, shift_x1b, shift_x2a, shift_x2b, shift_xa, shift_xb, shift_l2}
use Rattle.starts.specs.Starts.{start_g1, start_g2, start_x1a, start_x1b, start_x2a, start_x2b, start_xa, start_cm, start_cl, start_i5, start_q5}
use Rattle.machine.specs.Signals.{week_of, places_from}
use Rattle.machine.specs.Machine.{opened, advance, chip, chips, is_signal, is_prn}
use Rattle.standard.specs.Registers.{shifted, modular_shifted, polynomial_g1, polynomial_g2, vector_g, polynomial_x1a, polynomial_x1b, polynomial_x2a, polynomial_x2b}
use Rattle.standard.specs.Registers.{vector_x1a, vector_x1b, vector_x2a, vector_x2b, polynomial_xa, polynomial_xb, vector_l5, polynomial_l2}
use Rattle.standard.specs.Tables.{of_prn, states_cm, states_cl, advances_i5, advances_q5}
use Rattle.standard.specs.Standard.{standard}

-- A register of the standards, by its shift and its initial vector, and one of the machine, by its shift and its start, are the same: whatever they hold, a
-- shift of one is that of the other, and they start alike.
pub record Same (shifted : ℕ → ℕ) (vector : ℕ) (shift : ℕ → ℕ) (start : ℕ) : Type 0 where
  pub shifts : (r : ℕ) → shifted r ≡ shift r
  pub starts : vector ≡ start

-- The standards' registers are the machine's.
pub record SameRegisters : Type 0 where
  pub g1 : Same (shifted 10 polynomial_g1) vector_g shift_g1 start_g1
  pub g2 : Same (shifted 10 polynomial_g2) vector_g shift_g2 start_g2
  pub x1a : Same (shifted 12 polynomial_x1a) vector_x1a shift_x1a start_x1a
  pub x1b : Same (shifted 12 polynomial_x1b) vector_x1b shift_x1b start_x1b
  pub x2a : Same (shifted 12 polynomial_x2a) vector_x2a shift_x2a start_x2a
  pub x2b : Same (shifted 12 polynomial_x2b) vector_x2b shift_x2b start_x2b
  pub xa : Same (shifted 13 polynomial_xa) vector_l5 shift_xa start_xa
  -- XB of I5 and of Q5, from all ones advanced by what Table 3-I of IS-GPS-705 says of the PRN
  pub i5 : (prn : ℕ) → Same (shifted 13 polynomial_xb) (times (shifted 13 polynomial_xb) (of_prn advances_i5 prn) vector_l5) shift_xb (start_i5 prn)
  pub q5 : (prn : ℕ) → Same (shifted 13 polynomial_xb) (times (shifted 13 polynomial_xb) (of_prn advances_q5 prn) vector_l5) shift_xb (start_q5 prn)
  -- L2 CM and L2 CL, from the states of Table 3-IIa
  pub cm : (prn : ℕ) → Same (modular_shifted polynomial_l2) (of_prn states_cm prn) shift_l2 (start_cm prn)
  pub cl : (prn : ℕ) → Same (modular_shifted polynomial_l2) (of_prn states_cl prn) shift_l2 (start_cl prn)

-- After any number n of steps from the opened channel, the machine's chip is the standards' chip at n modulo W, for every signal and PRN.
abbrev pub EveryChip : Type 0
EveryChip =
    (signal prn n : ℕ) → is_signal signal ≡ true → is_prn prn ≡ true
    → chip (advance n (opened signal prn)) ≡ standard signal prn (n % week_of signal)

-- The n chips that the machine gives from there on are the standards' at the places from p on, round the week.
abbrev pub EveryWindow : Type 0
EveryWindow =
    (signal prn : ℕ) → is_signal signal ≡ true → is_prn prn ≡ true → (n p : ℕ)
    → chips n (advance p (opened signal prn)) ≡ map (standard signal prn) (places_from (week_of signal) p n)

-- The standards' registers are the machine's, and so are their sequences.
--     same_registers       the registers
--     g1_chip .. xb_chip   chip n of a register's sequence is what the machine's register gives after n shifts from its start
--     l2_chip              the same of an L2 register, from any state
-- Assumes nothing.
use mathlib.Core.Path.{◌≡◌, refl, ap, ◌∙◌}
use mathlib.Core.List.{List}
use Prim.Native.Nat.{ℕ, zero, suc, ◌*◌, ◌/◌, ◌%◌}
use native.Mathlib.Omega.{arith}
use lib.Bits.{bit_xor}
use Rattle.registers.specs.Times.{times}
use Rattle.registers.specs.Register.{stage, sum_of, shift, shift_g1, shift_g2, shift_x1a, shift_x1b, shift_x2a, shift_x2b, shift_xa, shift_xb, shift_l2}
use Rattle.registers.proofs.Xor.{xor_half}
use Rattle.starts.specs.Starts.{start_g1, start_g2, start_x1a, start_x1b, start_x2a, start_x2b, start_xa, starts_cm, starts_cl, start_cm, start_cl, start_i5, start_q5, advanced_xb}
use Rattle.starts.specs.Starts.{advances_i5 as machine_i5, advances_q5 as machine_q5}
use Rattle.standard.specs.Registers.{held_in, term, input, shifted, modular_shifted, sequence, modular_sequence, polynomial_g1, polynomial_g2, vector_g, polynomial_x1a, polynomial_x1b, polynomial_x2a, polynomial_x2b}
use Rattle.standard.specs.Registers.{vector_x1a, vector_x1b, vector_x2a, vector_x2b, polynomial_xa, polynomial_xb, vector_l5, polynomial_l2}
use Rattle.standard.specs.Tables.{of_prn, states_cm, states_cl, advances_i5, advances_q5}
use Rattle.standard.specs.Laws.{SameRegisters}

-- ---- shifts

g1_shift : (r : ℕ) → shifted 10 polynomial_g1 r ≡ shift_g1 r
unfolding held_in term input shifted stage sum_of shift
g1_shift r = omega arith

g2_shift : (r : ℕ) → shifted 10 polynomial_g2 r ≡ shift_g2 r
unfolding held_in term input shifted stage sum_of shift
g2_shift r = omega arith

x1a_shift : (r : ℕ) → shifted 12 polynomial_x1a r ≡ shift_x1a r
unfolding held_in term input shifted stage sum_of shift
x1a_shift r = omega arith

x1b_shift : (r : ℕ) → shifted 12 polynomial_x1b r ≡ shift_x1b r
unfolding held_in term input shifted stage sum_of shift
x1b_shift r = omega arith

x2a_shift : (r : ℕ) → shifted 12 polynomial_x2a r ≡ shift_x2a r
unfolding held_in term input shifted stage sum_of shift
x2a_shift r = omega arith

x2b_shift : (r : ℕ) → shifted 12 polynomial_x2b r ≡ shift_x2b r
unfolding held_in term input shifted stage sum_of shift
x2b_shift r = omega arith

xa_shift : (r : ℕ) → shifted 13 polynomial_xa r ≡ shift_xa r
unfolding held_in term input shifted stage sum_of shift
xa_shift r = omega arith

xb_shift : (r : ℕ) → shifted 13 polynomial_xb r ≡ shift_xb r
unfolding held_in term input shifted stage sum_of shift
xb_shift r = omega arith

-- to add the polynomial and move down is to move down and add what the polynomial moved down is
l2_shift : (r : ℕ) → modular_shifted polynomial_l2 r ≡ shift_l2 r
unfolding modular_shifted shift_l2
l2_shift r =
    let half : r % 2 * 0o1112225171 / 2 ≡ r % 2 * 0o445112474 = omega arith in
    xor_half r (r % 2 * 0o1112225171) ∙ ap (bit_xor (r / 2)) half

-- ---- many shifts

times_same : (f g : ℕ → ℕ) → ((r : ℕ) → f r ≡ g r) → (n r : ℕ) → times f n r ≡ times g n r
unfolding times
times_same f g same zero r = refl
times_same f g same (suc n) r = ap (times f n) (same r) ∙ times_same f g same n (g r)

pub g1_chip : (n : ℕ) → sequence 10 polynomial_g1 vector_g n ≡ stage 10 (times shift_g1 n start_g1)
unfolding held_in stage
g1_chip n = ap (stage 10) (times_same (shifted 10 polynomial_g1) shift_g1 g1_shift n vector_g)

pub g2_chip : (n : ℕ) → sequence 10 polynomial_g2 vector_g n ≡ stage 10 (times shift_g2 n start_g2)
unfolding held_in stage
g2_chip n = ap (stage 10) (times_same (shifted 10 polynomial_g2) shift_g2 g2_shift n vector_g)

pub x1a_chip : (n : ℕ) → sequence 12 polynomial_x1a vector_x1a n ≡ stage 12 (times shift_x1a n start_x1a)
unfolding held_in stage
x1a_chip n = ap (stage 12) (times_same (shifted 12 polynomial_x1a) shift_x1a x1a_shift n vector_x1a)

pub x1b_chip : (n : ℕ) → sequence 12 polynomial_x1b vector_x1b n ≡ stage 12 (times shift_x1b n start_x1b)
unfolding held_in stage
x1b_chip n = ap (stage 12) (times_same (shifted 12 polynomial_x1b) shift_x1b x1b_shift n vector_x1b)

pub x2a_chip : (n : ℕ) → sequence 12 polynomial_x2a vector_x2a n ≡ stage 12 (times shift_x2a n start_x2a)
unfolding held_in stage
x2a_chip n = ap (stage 12) (times_same (shifted 12 polynomial_x2a) shift_x2a x2a_shift n vector_x2a)

pub x2b_chip : (n : ℕ) → sequence 12 polynomial_x2b vector_x2b n ≡ stage 12 (times shift_x2b n start_x2b)
unfolding held_in stage
x2b_chip n = ap (stage 12) (times_same (shifted 12 polynomial_x2b) shift_x2b x2b_shift n vector_x2b)

pub xa_chip : (n : ℕ) → sequence 13 polynomial_xa vector_l5 n ≡ stage 13 (times shift_xa n start_xa)
unfolding held_in stage
xa_chip n = ap (stage 13) (times_same (shifted 13 polynomial_xa) shift_xa xa_shift n vector_l5)

xb_times : (n r : ℕ) → times (shifted 13 polynomial_xb) n r ≡ times shift_xb n r
xb_times = times_same (shifted 13 polynomial_xb) shift_xb xb_shift

pub xb_chip : (n : ℕ) → sequence 13 polynomial_xb vector_l5 n ≡ stage 13 (times shift_xb n 0b1111111111111)
unfolding held_in stage
xb_chip n = ap (stage 13) (xb_times n vector_l5)

pub l2_chip : (state n : ℕ) → modular_sequence polynomial_l2 state n ≡ times shift_l2 n state % 2
l2_chip state n = ap (λ (r : ℕ). r % 2) (times_same (modular_shifted polynomial_l2) shift_l2 l2_shift n state)

-- ---- the registers

-- the lists of a table that is typed twice
pub lists_same : (states_cm ≡ starts_cm) × (states_cl ≡ starts_cl) × (advances_i5 ≡ machine_i5) × (advances_q5 ≡ machine_q5)
unfolding states_cm starts_cm states_cl starts_cl advances_i5 advances_q5 machine_i5 machine_q5
lists_same = (refl, refl, refl, refl)

pub same_registers : SameRegisters
unfolding start_cm start_cl start_i5 start_q5 advanced_xb
same_registers =
    record {
      g1 = record { shifts = g1_shift; starts = refl };
      g2 = record { shifts = g2_shift; starts = refl };
      x1a = record { shifts = x1a_shift; starts = refl };
      x1b = record { shifts = x1b_shift; starts = refl };
      x2a = record { shifts = x2a_shift; starts = refl };
      x2b = record { shifts = x2b_shift; starts = refl };
      xa = record { shifts = xa_shift; starts = refl };
      i5 = λ prn. record { shifts = xb_shift; starts = xb_times (of_prn advances_i5 prn) vector_l5 ∙ ap (λ (l : List ℕ). times shift_xb (of_prn l prn) vector_l5) lists_same.2 };
      q5 = λ prn. record { shifts = xb_shift; starts = xb_times (of_prn advances_q5 prn) vector_l5 ∙ ap (λ (l : List ℕ). times shift_xb (of_prn l prn) vector_l5) lists_same.3 };
      cm = λ prn. record { shifts = l2_shift; starts = ap (λ (l : List ℕ). of_prn l prn) lists_same.0 };
      cl = λ prn. record { shifts = l2_shift; starts = ap (λ (l : List ℕ). of_prn l prn) lists_same.1 };
    }

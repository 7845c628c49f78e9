-- The machine's chip at a place and the standards' chip at that time are one, signal by signal.
--     in_order   for the signals in the order of their list
-- Assumes nothing.
use mathlib.Core.Path.{◌≡◌, refl, sym, ap, ◌∙◌}
use mathlib.Core.List.{List}
use mathlib.Core.Logic.{⊎_elim}
use Prim.Native.Nat.{ℕ, zero, suc, ◌+◌, ◌-◌, ◌/◌, ◌%◌, ◌^◌, ◌≤◌, ◌<◌}
use native.Mathlib.Nat.{mod-lt, mod-mod, mod-eq_of_lt}
use native.Mathlib.Omega.{arith}
use lib.Dec.{lit<}
use lib.ListN.{get_or}
use Rattle.registers.specs.Times.{times}
use Rattle.registers.specs.Register.{stage, sum_of, shift_g1, shift_g2, shift_xa, shift_l2}
use Rattle.registers.proofs.Below.{equal_at}
use Rattle.starts.specs.Starts.{Listed, entry_of, start_g1, start_g2, start_xa, stages_of, start_cm, start_cl, start_i5, start_q5, advanced_xb}
use Rattle.starts.specs.Starts.{advances_i5 as machine_i5, advances_q5 as machine_q5}
use Rattle.machine.specs.Signals.{week_ca, week_p, week_l2, week_l5, signals, no_signal, signal_ca, signal_p, from_cm, from_cl, from_l5}
use Rattle.week.specs.Standing.{standing_at, generator_at}
use Rattle.week.specs.Week.{chip_x2, line_at, courses_ca, courses_p, courses_cm, courses_cl, courses_l5, courses, no_courses, course_g, course_x1a, course_cm}
use Rattle.week.specs.Week.{course_cl, course_xa, course_xb, channel_at}
use Rattle.week.proofs.DelayLine.{recent, older}
use Rattle.week.proofs.SignalWeeks.{chip_late}
use Rattle.week.proofs.Circle.{less_or}
use Rattle.standard.specs.Standard.{week, x2, xa, xb, code_ca, code_p, code_cm, code_cl, codes}
use Rattle.standard.specs.Tables.{of_prn, code_delays, states_cm, states_cl}
use Rattle.standard.proofs.SameRegisters.{g1_chip, g2_chip, x1a_chip, x1b_chip, x2a_chip, x2b_chip, xa_chip, xb_chip, l2_chip, lists_same, same_registers}
use Rattle.standard.proofs.Sequences.{delayed, advanced}
use Rattle.standard.specs.Standard.{phase_x1b, phase_x2a, phase_x2b}
use Rattle.standard.proofs.Phases.{phase_runs, x1b_phase, x2a_phase, x2b_phase}

-- ---- C/A

ca_chip : (signal prn w : ℕ) → Listed 37 prn → w < week_ca → (signal_ca prn).chip (channel_at (signal_ca prn) courses_ca signal prn w w) ≡ code_ca prn w
unfolding generator_at stages_of sum_of
ca_chip signal prn w listed h =
    let whole : (standing_at course_g w).phase ≡ w % 1023 = phase_runs course_g w h (omega arith) ∙ mod-mod w 1023 in
    let r : ℕ = times shift_g2 (w % 1023) start_g2 in
    let add : (a b c : ℕ) → (a + b + c) % 2 ≡ (a + (b + (c + 0) % 2) % 2) % 2 = λ a b c. omega arith in
    rw (whole, g1_chip (w % 1023), g2_chip ((w + (1023 - of_prn code_delays prn)) % 1023))
    (add (stage 10 (times shift_g1 (w % 1023) start_g1)) (stage (stages_of prn).first r) (stage (stages_of prn).second r)
    ∙ ap (λ (b : ℕ). (stage 10 (times shift_g1 (w % 1023) start_g1) + b) % 2) (delayed (prn - 1) (omega arith) w))

-- ---- L2

cm_chip : (signal prn w : ℕ) → w < week_l2 → (from_cm (start_cm prn)).chip (channel_at (from_cm (start_cm prn)) courses_cm signal prn w w) ≡ code_cm prn w
unfolding generator_at
cm_chip signal prn w h =
    let whole : (standing_at course_cm w).phase ≡ w % 10230 = phase_runs course_cm w h (omega arith) ∙ mod-mod w 10230 in
    rw (whole, l2_chip (of_prn states_cm prn) (w % 10230)) (ap (λ (r : ℕ). times shift_l2 (w % 10230) r % 2) (sym (same_registers.cm prn).starts))

cl_chip : (signal prn w : ℕ) → w < week_l2 → (from_cl (start_cl prn)).chip (channel_at (from_cl (start_cl prn)) courses_cl signal prn w w) ≡ code_cl prn w
unfolding generator_at
cl_chip signal prn w h =
    let whole : (standing_at course_cl w).phase ≡ w % 767250 = phase_runs course_cl w h (omega arith) ∙ mod-mod w 767250 in
    rw (whole, l2_chip (of_prn states_cl prn) (w % 767250)) (ap (λ (r : ℕ). times shift_l2 (w % 767250) r % 2) (sym (same_registers.cl prn).starts))

-- ---- L5, from the advance that sets XB's start

l5_chip : (signal prn advance w : ℕ) → w < week_l5
    → let s = from_l5 (advanced_xb advance) in s.chip (channel_at s courses_l5 signal prn w w) ≡ (xa w + xb advance w) % 2
unfolding generator_at
l5_chip signal prn advance w h =
    let first : (standing_at course_xa w).phase ≡ w % 10230 % 8190 = phase_runs course_xa w h (omega arith) in
    let second : (standing_at course_xb w).phase ≡ w % 10230 % 8191 = phase_runs course_xb w h (omega arith) in
    rw (first, second, xa_chip (w % 10230 % 8190), xb_chip (advance + w % 10230))
    (ap (λ (r : ℕ). (stage 13 (times shift_xa (w % 10230 % 8190) start_xa) + stage 13 r) % 2) (advanced advance (w % 10230)))

-- ---- P

-- the X2 chip
x2_chip : (prn w : ℕ) → w < week_p → chip_x2 (signal_p prn) courses_p w ≡ x2 w
unfolding generator_at
x2_chip prn w h = rw (x2a_phase w h, x2b_phase w h, x2a_chip (phase_x2a w), x2b_chip (phase_x2b w)) refl

-- bit i - 1 of a line of ones
ones_line : (k : ℕ) → k < 37 → (2 ^ 37 - 1) / 2 ^ k % 2 ≡ 1
ones_line k h = equal_at 37 (λ i. (2 ^ 37 - 1) / 2 ^ i % 2) (λ i. 1) tt k h

-- bit i - 1 of the delay line is the X2 chip i places before, round the week
line_chip : (prn w : ℕ) → Listed 37 prn → w < week_p → stage prn (line_at (signal_p prn) courses_p w) ≡ x2 ((w + (week - prn)) % week)
unfolding stage line_at
line_chip prn w listed h =
    let x = chip_x2 (signal_p prn) courses_p in
    let small : (m : ℕ) → x m < 2 = λ m. mod-lt _ (lit< tt) in
    ⊎_elim
    (λ (i : w < prn).
    let there : (w + (6187104000000 - prn)) % 6187104000000 ≡ w + (6187104000000 - prn) = mod-eq_of_lt (omega arith) in
    older 37 x small 0 (2 ^ 37 - 1) w (prn - 1) (omega arith) (omega arith)
    ∙ ones_line (prn - 1 - w) (omega arith)
    ∙ sym (chip_late prn (w + (6187104000000 - prn)) (omega arith))
    ∙ x2_chip prn (w + (6187104000000 - prn)) (omega arith)
    ∙ ap x2 (sym there))
    (λ (i : prn ≤ w).
    let there : 0 + (w - 1 - (prn - 1)) ≡ (w + (6187104000000 - prn)) % 6187104000000 = omega arith in
    recent 37 x small 0 (2 ^ 37 - 1) w (prn - 1) (omega arith) (omega arith)
    ∙ ap x there
    ∙ x2_chip prn ((w + (6187104000000 - prn)) % 6187104000000) (mod-lt _ (lit< tt)))
    (less_or w prn)

p_chip : (signal prn w : ℕ) → Listed 37 prn → w < week_p → (signal_p prn).chip (channel_at (signal_p prn) courses_p signal prn w w) ≡ code_p prn w
unfolding generator_at
p_chip signal prn w listed h =
    let first : (standing_at course_x1a w).phase ≡ w % 4092 = phase_runs course_x1a w h (omega arith) ∙ let same : w % 15345000 % 4092 ≡ w % 4092 = omega arith in same in
    rw (first, x1b_phase w h, line_chip prn w listed h, x1a_chip (w % 4092), x1b_chip (phase_x1b w)) refl

-- ---- every signal

pub in_order : (k signal prn w : ℕ) → k < 6 → Listed 37 prn → w < (get_or (signals 1) k no_signal).week
    → (get_or (signals prn) k no_signal).chip (channel_at (get_or (signals prn) k no_signal) (get_or courses k no_courses) signal prn w w) ≡ get_or (codes prn) k (λ t. 0) w
unfolding start_i5 start_q5
in_order zero signal prn w b listed h = ca_chip signal prn w listed h
in_order (suc zero) signal prn w b listed h = p_chip signal prn w listed h
in_order (suc (suc zero)) signal prn w b listed h = cm_chip signal prn w h
in_order (suc (suc (suc zero))) signal prn w b listed h = cl_chip signal prn w h
in_order (suc (suc (suc (suc zero)))) signal prn w b listed h = l5_chip signal prn (entry_of machine_i5 prn) w h ∙ ap (λ (l : List ℕ). (xa w + xb (of_prn l prn) w) % 2) (sym lists_same.2)
in_order (suc (suc (suc (suc (suc zero))))) signal prn w b listed h = l5_chip signal prn (entry_of machine_q5 prn) w h ∙ ap (λ (l : List ℕ). (xa w + xb (of_prn l prn) w) % 2) (sym lists_same.3)
in_order (suc (suc (suc (suc (suc (suc k)))))) signal prn w b listed h = absurd (omega arith)

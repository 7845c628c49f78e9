-- The chips of a reply are the standards'.
--     by_the_standards_lem   where a line's numbers are not refused, the chips in its reply are those that IS-GPS-200 and IS-GPS-705 write
--     reply_by_the_standards     so the reply is the same by the standards
-- Assumes nothing.
use Prim.Native.Nat.{ℕ}
use mathlib.Core.Bool.{Bool, true, false, cond}
use mathlib.Core.List.{List}
use mathlib.Core.Path.{◌≡◌, refl, ap}
use native.Mathlib.Omega.{arith}
use lib.Dec.{ltb, eqb}
use borrow.Author.Tests.{eqb-true}
use Rattle.machine.specs.Signals.{week_of}
use Rattle.machine.specs.Machine.{is_signal, is_prn}
use Rattle.standard.proofs.EveryChip.{every_window}
use Rattle.fields.specs.Fields.{value}
use Rattle.texts.specs.Texts.{refused_line}
use Rattle.gps_chips.specs.Chips.{by_the_machine, by_the_standards}
use Rattle.lines.specs.Lines.{signal_field, prn_field, place_field, count_field, is_count, line_refusal, are_numbers, answered_with, reply_to, fields_reply, line_reply}

pub by_the_standards_lem : (signal prn place count : ℕ) → line_refusal signal prn place count ≡ 0 → by_the_machine signal prn place count ≡ by_the_standards signal prn place count
unfolding line_refusal
by_the_standards_lem signal prn place count = by (is_signal signal) refl (is_prn prn) refl (cond (ltb place (week_of signal)) (cond (is_count count) 0 5) 3)
  where
    by : (s : Bool) → is_signal signal ≡ s → (p : Bool) → is_prn prn ≡ p → (n : ℕ) → ◌≡◌ {A = ℕ} (cond s (cond p n 2) 1) 0
        → by_the_machine signal prn place count ≡ by_the_standards signal prn place count
    by true s true p n e = every_window signal prn s p count place
    by true s false p n e = absurd (omega (arith, e))
    by false s p' p n e = absurd (omega (arith, e))

module _ (signal prn place count : List ℕ) where
  numbers_by_the_standards : (n m k j : ℕ) → reply_to by_the_machine signal prn place n m k j ≡ reply_to by_the_standards signal prn place n m k j
  numbers_by_the_standards n m k j = by (eqb (line_refusal n m k j) 0) refl
    where
      by : (t : Bool) → eqb (line_refusal n m k j) 0 ≡ t
          → cond t (answered_with signal prn place (by_the_machine n m k j)) (refused_line (line_refusal n m k j))
          ≡ cond t (answered_with signal prn place (by_the_standards n m k j)) (refused_line (line_refusal n m k j))
      by true e = ap (answered_with signal prn place) (by_the_standards_lem n m k j (eqb-true (line_refusal n m k j) 0 e))
      by false e = refl

  fields_by_the_standards : fields_reply by_the_machine signal prn place count ≡ fields_reply by_the_standards signal prn place count
  unfolding fields_reply
  fields_by_the_standards =
      ap (λ (l : List ℕ). cond (are_numbers signal prn place count) l (refused_line 9))
      (numbers_by_the_standards (value signal) (value prn) (value place) (value count))

pub reply_by_the_standards : (line : List ℕ) → line_reply by_the_machine line ≡ line_reply by_the_standards line
unfolding line_reply
reply_by_the_standards line = fields_by_the_standards (signal_field line) (prn_field line) (place_field line) (count_field line)

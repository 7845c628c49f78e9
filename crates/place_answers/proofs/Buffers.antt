-- The answer of an accepted Chips.
--     chips_short     it has room
--     chips_filled    its buffer has the chips that it answers
--     chips_text      its buffer's length is all that tells
-- Assumes nothing.
use Rattle.std.proofs.Common.{ℕ, ◌≤◌, ◌≡◌, refl, sym, ap, subst, ◌∙◌, arith, Bool, true, false, cond, List, length, take, replicate}
use Rattle.std.proofs.lemmas.List.{length-take-le, length-replicate}
use lib.Dec.{leb, ltb}
use borrow.Author.Tests.{leb-true, ltb-false, le-leb}
use Rattle.machine.specs.Signals.{week_of}
use Rattle.machine.specs.Machine.{is_signal, is_prn}
use Rattle.gps_chips.specs.Chips.{chips_answer, by_the_machine, chips_buffer}
use Rattle.answer_lines.specs.Lines.{answered_line, most_length}
use Rattle.place_answers.specs.PlaceAnswers.{chips_line, chips_answered}

module _ (signal prn place : ℕ) where
  pub chips_short : (n : ℕ) → chips_answer signal prn place n ≡ 0 → n ≤ 65536
  unfolding chips_answer
  chips_short n e = by (is_signal signal) (is_prn prn) (ltb place (week_of signal)) (leb n 65536) refl e
    where
      by : (s p w t : Bool) → leb n 65536 ≡ t → ◌≡◌ {A = ℕ} (cond s (cond p (cond w (cond t 0 5) 3) 2) 1) 0 → n ≤ 65536
      by true true true true short none = leb-true n 65536 short
      by true true true false short none = absurd (omega (arith, none))
      by true true false t short none = absurd (omega (arith, none))
      by true false w t short none = absurd (omega (arith, none))
      by false p w t short none = absurd (omega (arith, none))

  pub chips_filled : (b after : List ℕ) → chips_answer signal prn place (length b) ≡ 0 → after ≡ chips_buffer by_the_machine signal prn place b
      → answered_line 0 after ≡ chips_line signal prn place (length b)
  unfolding chips_buffer
  chips_filled b after e filled = rw e (ap (answered_line 0) (filled ∙ rw e refl))

  pub chips_text : (bytes : ℕ) (lent : List ℕ) → ltb most_length bytes ≡ false → most_length ≤ length lent
      → chips_line signal prn place (length (take bytes lent)) ≡ chips_answered signal prn place bytes
  chips_text bytes lent few room =
      let fits : bytes ≤ most_length = ltb-false most_length bytes few in
      let long : length (take bytes lent) ≡ bytes = length-take-le bytes lent (omega (arith, fits, room)) in
      rw (le-leb bytes most_length fits) (ap (chips_line signal prn place) long)

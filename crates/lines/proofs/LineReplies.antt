-- What a line is answered.
--     is_numbered                                     a refusal has a number
--     refused_by_chips, refused_by_count, accepted    what is refused, where Chips is asked for 64 chips at most
--     counted, none_counted, many_counted             the count
--     few_asked, none_asked, most_asked               how many chips Chips is asked for
--     filled                                          the chips of an accepted count
--     reply_refused, reply_malformed                  the reply to a refusal
--     numbers                                         how long four numbers are
--     long_refused                                    a line of more than 55 bytes is refused
-- Assumes nothing.
use Prim.Native.Nat.{ℕ, ◌≤◌, ◌<◌}
use mathlib.Core.Bool.{Bool, true, false, cond, ◌&&◌}
use mathlib.Core.List.{List}
use mathlib.Core.Path.{◌≡◌, refl, sym, ap, subst, ◌∙◌}
use native.Mathlib.Omega.{arith}
use lib.Dec.{ltb, leb, eqb}
use lib.ListN.{length}
use borrow.Author.Tests.{leb-true, leb-false, le-leb, lt-leb, ne_eqb}
use Rattle.refusals.specs.Refusal.{number_of}
use Rattle.refusals.specs.declared.Refusal.{Refusal}
use Rattle.refusals.specs.declared.Refusal.TheVariants as refusals
use Rattle.machine.specs.Signals.{week_of}
use Rattle.machine.specs.Machine.{is_signal, is_prn}
use Rattle.call_window.specs.Window.{most_chips}
use Rattle.gps_chips.specs.Chips.{chips_answer, chips_buffer, by_the_machine}
use Rattle.machine.proofs.Tests.{four}
use Rattle.fields.specs.Fields.{after, is_number}
use Rattle.fields.proofs.Bytes.{number_is, sides_whole}
use Rattle.texts.specs.Texts.{refused_line}
use Rattle.lines.specs.Lines.{signal_field, prn_field, place_field, count_field, is_count, chips_asked, line_refusal, reply_to, are_numbers, fields_reply, line_reply}

-- ---- what is refused

-- a refusal has a number
pub is_numbered : (r : Refusal) → 0 < number_of r
is_numbered refusals.Signal = omega arith
is_numbered refusals.Prn = omega arith
is_numbered refusals.Place = omega arith
is_numbered refusals.Channel = omega arith
is_numbered refusals.Count = omega arith
is_numbered refusals.Room = omega arith
is_numbered refusals.Epoch = omega arith
is_numbered refusals.Chip = omega arith
is_numbered refusals.Line = omega arith

module _ (signal prn place count n : ℕ) (few : n ≤ 64) where
  -- Chips is asked for n chips: what it refuses is refused with the same number, and else the count decides
  line_refused : line_refusal signal prn place count ≡ cond (eqb (chips_answer signal prn place n) 0) (cond (is_count count) 0 5) (chips_answer signal prn place n)
  unfolding chips_answer line_refusal
  line_refused = rw (le-leb n most_chips (omega (arith, few))) (by (is_signal signal) (is_prn prn) (ltb place (week_of signal)))
    where
      by : (s p w : Bool) → ◌≡◌ {A = ℕ} (cond s (cond p (cond w (cond (is_count count) 0 5) 3) 2) 1)
          (cond (eqb (cond s (cond p (cond w 0 3) 2) 1) 0) (cond (is_count count) 0 5) (cond s (cond p (cond w 0 3) 2) 1))
      by true true true = refl
      by true true false = refl
      by true false w = refl
      by false p w = refl

  pub refused_by_chips : (r : Refusal) → number_of r ≡ chips_answer signal prn place n → line_refusal signal prn place count ≡ number_of r
  refused_by_chips r e = line_refused ∙ rw (sym e, ne_eqb (number_of r) 0 (λ none. omega (arith, none, is_numbered r))) refl

  pub refused_by_count : 0 ≡ chips_answer signal prn place n → is_count count ≡ false → line_refusal signal prn place count ≡ 5
  refused_by_count e bad = line_refused ∙ rw (sym e, bad) refl

  pub accepted : 0 ≡ chips_answer signal prn place n → is_count count ≡ true → line_refusal signal prn place count ≡ 0
  accepted e good = line_refused ∙ rw (sym e, good) refl

pub counted : (n : ℕ) → 1 ≤ n → n ≤ 64 → is_count n ≡ true
counted n some few = rw (le-leb 1 n some, le-leb n 64 few) refl

pub none_counted : (n : ℕ) → n ≡ 0 → is_count n ≡ false
none_counted n none = rw none refl

pub many_counted : (n : ℕ) → 64 < n → is_count n ≡ false
many_counted n many = rw (le-leb 1 n (omega (arith, many)), lt-leb n 64 many) refl

-- Chips is asked for the count where that is 64 at most, and else for none
pub few_asked : (n : ℕ) → n ≤ 64 → n ≡ chips_asked n
few_asked n few = by (leb 1 n) refl
  where
    by : (t : Bool) → leb 1 n ≡ t → n ≡ cond (t && leb n 64) n 0
    by true e = rw (le-leb n 64 few) refl
    by false e = omega (arith, leb-false 1 n e)

pub none_asked : (n : ℕ) → 64 < n → 0 ≡ chips_asked n
none_asked n many = rw (le-leb 1 n (omega (arith, many)), lt-leb n 64 many) refl

pub most_asked : (n : ℕ) → chips_asked n ≤ 64
most_asked n = by (leb n 64) refl
  where
    by : (t : Bool) → leb n 64 ≡ t → chips_asked n ≤ 64
    by true e = subst (λ (k : ℕ). k ≤ 64) (few_asked n (leb-true n 64 e)) (leb-true n 64 e)
    by false e = subst (λ (k : ℕ). k ≤ 64) (none_asked n (leb-false n 64 e)) (omega arith)

-- so many chips were asked for as are in the buffer
pub filled : (signal prn place count : ℕ) (old new : List ℕ) → length old ≡ count → 0 ≡ chips_answer signal prn place (length old)
    → new ≡ chips_buffer by_the_machine signal prn place old → new ≡ by_the_machine signal prn place count
unfolding chips_buffer
filled signal prn place count old new long e is = is ∙ rw (sym e) (ap (by_the_machine signal prn place) long)

pub reply_refused : (chips_from : ℕ → ℕ → ℕ → ℕ → List ℕ) (signal_field prn_field place_field : List ℕ) (signal prn place count : ℕ) (r : Refusal) → line_refusal signal prn place count ≡ number_of r
    → reply_to chips_from signal_field prn_field place_field signal prn place count ≡ refused_line (number_of r)
reply_refused chips_from signal_field prn_field place_field signal prn place count r e = rw (e, ne_eqb (number_of r) 0 (λ none. omega (arith, none, is_numbered r))) refl

-- ---- four fields

module _ (signal prn place count : List ℕ) where
  pub reply_malformed : (chips_from : ℕ → ℕ → ℕ → ℕ → List ℕ) → are_numbers signal prn place count ≡ false → refused_line 9 ≡ fields_reply chips_from signal prn place count
  unfolding fields_reply
  reply_malformed chips_from bad = rw bad

  -- each field is a number, so it has at most 13 bytes
  pub record Numbers : Type 0 where
    pub signal_is : is_number signal ≡ true
    pub prn_is : is_number prn ≡ true
    pub place_is : is_number place ≡ true
    pub count_is : is_number count ≡ true
    pub signal_short : length signal ≤ 13
    pub prn_short : length prn ≤ 13
    pub place_short : length place ≤ 13
    pub count_short : length count ≤ 13

  pub numbers : are_numbers signal prn place count ≡ true → Numbers
  numbers good =
      let all = four (is_number signal) (is_number prn) (is_number place) (is_number count) good in
      record {
        signal_is = all.0;
        prn_is = all.1;
        place_is = all.2;
        count_is = all.3;
        signal_short = (number_is signal all.0).0;
        prn_short = (number_is prn all.1).0;
        place_short = (number_is place all.2).0;
        count_short = (number_is count all.3).0;
      }

-- ---- a line

-- the longest well-formed line has 55 bytes: four times 13 digits, and three spaces
pub long_refused : (chips_from : ℕ → ℕ → ℕ → ℕ → List ℕ) (line : List ℕ) → 55 < length line → line_reply chips_from line ≡ refused_line 9
unfolding line_reply
long_refused chips_from line long =
    sym (reply_malformed (signal_field line) (prn_field line) (place_field line) (count_field line) chips_from (by (are_numbers (signal_field line) (prn_field line) (place_field line) (count_field line)) refl))
  where
    by : (t : Bool) → are_numbers (signal_field line) (prn_field line) (place_field line) (count_field line) ≡ t → t ≡ false
    by false e = refl
    by true e =
        let n = numbers (signal_field line) (prn_field line) (place_field line) (count_field line) e in
        absurd (omega (
          arith,
          long,
          n.signal_short,
          n.prn_short,
          n.place_short,
          n.count_short,
          sides_whole line,
          sides_whole (after line),
          sides_whole (after (after line)),
        ))

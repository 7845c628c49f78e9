-- For the contracts of inner functions alone: the words of `Lines` at the four fields together.
-- Assumes nothing.
use Rattle.std.specs.Prelude.{ℕ, ◌≤◌, Bool, List, length}
use Rattle.fields.specs.Fields.{value}
use Rattle.gps_chips.specs.Chips.{by_the_machine}
use Rattle.lines.specs.declared.Asked.{Asked}
use Rattle.lines.specs.declared.Fields.{Fields}
use Rattle.lines.specs.Lines.{are_numbers, answered_with, fields_reply}

-- no field has more digits than a number
pub record AreShort (f : Fields) : Type 0 where
  pub signal_short : length f.signal.now ≤ 13
  pub prn_short : length f.prn.now ≤ 13
  pub place_short : length f.place.now ≤ 13

abbrev pub are_numbers_of : Fields → Bool
are_numbers_of f = are_numbers f.signal.now f.prn.now f.place.now f.count.now

-- the numbers that they stand for
abbrev pub asked_of : Fields → Asked
asked_of f = record { signal = value f.signal.now; prn = value f.prn.now; place = value f.place.now; count = value f.count.now }

abbrev pub answered_of : Fields → List ℕ → List ℕ
answered_of f chips = answered_with f.signal.now f.prn.now f.place.now chips

-- the reply, with the machine's chips
abbrev pub fields_reply_of : Fields → List ℕ
fields_reply_of f = fields_reply by_the_machine f.signal.now f.prn.now f.place.now f.count.now

-- What the console answers to each call that hands back no channel, as bytes. The replies are those that the promises of the calls cite.
-- Assumes nothing.
use Rattle.std.specs.Prelude.{ℕ, cond, List, [], ◌++◌, leb, eqb, ℤ}
use Rattle.gps_chips.specs.Chips.{chips_answer, by_the_machine}
use Rattle.places.specs.Places as places
use Rattle.texts.specs.Texts.{refused_line}
use Rattle.numbers.specs.Numbers.{number_word}
use Rattle.answer_lines.specs.Lines.{ok, signed_word, answered_line, error_line, most_length}

-- ---- the answers, given the reply

-- `answer N CHIPS`, of a buffer of so many bytes: "a refused call answers its number and `-`"
abbrev pub chips_line : ℕ → ℕ → ℕ → ℕ → List ℕ
chips_line signal prn place bytes =
    let n = chips_answer signal prn place bytes in
    answered_line n (cond (eqb n 0) (by_the_machine signal prn place bytes) [])

-- `ok EPOCH CHIP`
abbrev pub reading_line : places.Reply (ℕ × ℕ) → List ℕ
reading_line (places.answer r) = ok (number_word 32 r.0 ++ number_word 10 r.1)
reading_line (places.refusal n) = refused_line n

-- `ok PLACE`
abbrev pub place_of_line : places.Reply ℕ → List ℕ
place_of_line (places.answer place) = ok (number_word 10 place)
place_of_line (places.refusal n) = refused_line n

-- `ok SIGNED`
abbrev pub gap_line : places.Reply ℤ → List ℕ
gap_line (places.answer chips) = ok (signed_word chips)
gap_line (places.refusal n) = refused_line n

-- ---- the call on a buffer, by its length: "LENGTH above 131,072 .. answers `error`"

abbrev pub chips_answered : ℕ → ℕ → ℕ → ℕ → List ℕ
chips_answered signal prn place bytes = cond (leb bytes most_length) (chips_line signal prn place bytes) error_line

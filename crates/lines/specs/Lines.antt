-- A line of the line program and its reply, as bytes, for every line: document 01, "Line program".
-- Bytes are those of ASCII: 10 is a newline, 32 a space.
-- Assumes nothing.
use Rattle.std.specs.Prelude.{ℕ, Bool, cond, ◌&&◌, List, [], ◌∷◌, ◌++◌, map, ltb, leb, eqb}
use Rattle.machine.specs.Signals.{week_of}
use Rattle.machine.specs.Machine.{is_signal, is_prn}
use Rattle.fields.specs.Fields.{before, after, is_number, value, shorn}
use Rattle.texts.specs.Texts.{refused_line, chip_digit}

-- ---- the form of a line: "signal, PRN, place, count, each 1 to 13 digits, one space between"

abbrev pub signal_field : List ℕ → List ℕ
signal_field line = before line

abbrev pub prn_field : List ℕ → List ℕ
prn_field line = before (after line)

abbrev pub place_field : List ℕ → List ℕ
place_field line = before (after (after line))

-- all that is left; a fourth space would be in it, and is no digit
abbrev pub count_field : List ℕ → List ℕ
count_field line = after (after (after line))

abbrev pub are_numbers : List ℕ → List ℕ → List ℕ → List ℕ → Bool
are_numbers signal prn place count = is_number signal && is_number prn && is_number place && is_number count

-- ---- what is refused: "then 1, 2, 3; then 5 for a count of 0 or above 64"; 0 where nothing is

abbrev pub is_count : ℕ → Bool
is_count n = leb 1 n && leb n 64

-- as many chips as Chips is asked for: the count, or none where it is refused
abbrev pub chips_asked : ℕ → ℕ
chips_asked n = cond (is_count n) n 0

unfoldable pub line_refusal : ℕ → ℕ → ℕ → ℕ → ℕ
line_refusal signal prn place count =
    cond (is_signal signal) (cond (is_prn prn) (cond (ltb place (week_of signal)) (cond (is_count count) 0 5) 3) 2) 1

-- ---- the reply: "Each output line ends in a newline."

-- "the first three numbers as read, leading zeros dropped", each with the space after it
abbrev pub echoed : List ℕ → List ℕ
echoed field = shorn field ++ (32 ∷ [])

-- ".. then the chips that Chips gives"
abbrev pub answered_with : List ℕ → List ℕ → List ℕ → List ℕ → List ℕ
answered_with signal prn place chips = echoed signal ++ (echoed prn ++ (echoed place ++ (map chip_digit chips ++ (10 ∷ []))))

-- given who gives the chips, the first three fields, and the four numbers
abbrev pub reply_to : (ℕ → ℕ → ℕ → ℕ → List ℕ) → List ℕ → List ℕ → List ℕ → ℕ → ℕ → ℕ → ℕ → List ℕ
reply_to chips_from signal_field prn_field place_field signal prn place count =
    cond (eqb (line_refusal signal prn place count) 0)
    (answered_with signal_field prn_field place_field (chips_from signal prn place count))
    (refused_line (line_refusal signal prn place count))

-- "9: a line of another form", judged first
unfoldable pub fields_reply : (ℕ → ℕ → ℕ → ℕ → List ℕ) → List ℕ → List ℕ → List ℕ → List ℕ → List ℕ
fields_reply chips_from signal prn place count =
    cond (are_numbers signal prn place count)
    (reply_to chips_from signal prn place (value signal) (value prn) (value place) (value count))
    (refused_line 9)

-- the chips are the machine's, `by_the_machine`, or, which is proved to be the same, the standards', `by_the_standards`
unfoldable pub line_reply : (ℕ → ℕ → ℕ → ℕ → List ℕ) → List ℕ → List ℕ
line_reply chips_from line = fields_reply chips_from (signal_field line) (prn_field line) (place_field line) (count_field line)

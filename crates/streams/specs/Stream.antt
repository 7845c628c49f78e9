-- The replies of a stream of bytes, a line at a time: document 01, "Line program".
-- Assumes nothing.
use Rattle.std.specs.Prelude.{ℕ, ◌≡◌, cond, List, [], ◌∷◌, ◌++◌, eqb, take}
use Rattle.texts.specs.Texts.{refused_line}
use Rattle.texts.specs.Saying.{rest_of, replies_of, whole}
use Rattle.gps_chips.specs.Chips.{by_the_machine, by_the_standards}
use Rattle.lines.specs.Lines.{line_reply}
use Rattle.line_programs.specs.Lines.{ended, unended, joined, AllPlain}
use Rattle.line_programs.specs.Dialogs.{Course, fed_with}
use Rattle.texts.specs.Saying.{Plain}
use Rattle.streams.specs.declared.Pending.{Pending}

-- ---- the whole output

-- the replies to lines, in order, given who gives the chips: "newline after each"
abbrev pub replies_to : (ℕ → ℕ → ℕ → ℕ → List ℕ) → List (List ℕ) → List ℕ
replies_to chips_from [] = []
replies_to chips_from (line ∷ lines) = line_reply chips_from line ++ replies_to chips_from lines

-- what the end of the input has it say: "9: a line of another form, a last one lacking its newline included"
abbrev pub last_reply : List ℕ → List ℕ
last_reply [] = []
last_reply (b ∷ bs) = refused_line 9

-- the whole output for a whole input: the replies to its lines, in order, and `refused 9` for what follows the last newline, if that has a byte
abbrev pub answers : (ℕ → ℕ → ℕ → ℕ → List ℕ) → List ℕ → List ℕ
answers chips_from input = replies_to chips_from (ended input) ++ last_reply (unended input)

-- what is said to some bytes, of which more may follow
abbrev pub answers_so_far : (ℕ → ℕ → ℕ → ℕ → List ℕ) → List ℕ → List ℕ
answers_so_far chips_from bytes = replies_to chips_from (ended bytes)

-- ---- the same byte by byte

-- the bytes of the line that has no newline yet, after one byte more
abbrev pub next : List ℕ → ℕ → List ℕ
next line b = cond (eqb b 10) [] (line ++ (b ∷ []))

-- what that byte has the program say
abbrev pub said : List ℕ → ℕ → List ℕ
said line b = cond (eqb b 10) (line_reply by_the_machine line) []

-- the same of any number of bytes more
abbrev pub rest : List ℕ → List ℕ → List ℕ
rest line bs = rest_of next line bs

abbrev pub replies : List ℕ → List ℕ → List ℕ
replies line bs = replies_of next said line bs

-- what is still to be said, where a line has begun with some bytes
abbrev pub saying : List ℕ → List ℕ → List ℕ
saying line input = replies line input ++ last_reply (rest line input)

-- ---- what a stream keeps of an unended line: its first 56 bytes, one more than the longest well-formed line has

abbrev pub kept : List ℕ → List ℕ
kept line = take 56 line

-- the bytes that a line half come holds
abbrev pub held : Pending → List ℕ
held s = take s.len s.bytes

-- ---- all that a stream does with bytes

abbrev pub course : Course (List ℕ)
course = record { kept = kept; next = next; said = said; last = last_reply }

-- ---- every input

-- The output for lines, each with its newline, and what follows the last one, is the replies to the lines, in order, and `refused 9` for what follows, if that has
-- a byte.
abbrev pub InOrder : Type 0
InOrder =
    (chips_from : ℕ → ℕ → ℕ → ℕ → List ℕ) (lines : List (List ℕ)) (last : List ℕ) → AllPlain lines → Plain last
    → answers chips_from (joined lines last) ≡ replies_to chips_from lines ++ last_reply last

-- It is the same however the input is cut into chunks.
abbrev pub AnyChunks : Type 0
AnyChunks = (chunks : List (List ℕ)) → fed_with course [] chunks ≡ answers by_the_machine (whole chunks)

-- The machine's chips in it are the standards'.
abbrev pub ByTheStandards : Type 0
ByTheStandards = (input : List ℕ) → answers by_the_machine input ≡ answers by_the_standards input

-- The parts of an answer of the console, as bytes, and what is answered of a line that is no command.
-- Bytes are those of ASCII: 10 is a newline, 32 a space, 45 is `-`.
-- Assumes nothing.
use Rattle.std.specs.Prelude.{ℕ, suc, List, [], ◌∷◌, ◌++◌, map, ℤ, pos, negsuc, Option, option_map}
use Rattle.machine.specs.declared.Channel.{Channel}
use Rattle.texts.specs.Texts.{chip_digit}
use Rattle.numbers.specs.Numbers.{number_word}

abbrev pub ok : List ℕ → List ℕ
ok text = 111 ∷ 107 ∷ 32 ∷ text

abbrev pub error_line : List ℕ
error_line = 101 ∷ 114 ∷ 114 ∷ 111 ∷ 114 ∷ 10 ∷ []

-- chips at the end of a line: a digit for each, or `-` for none
abbrev pub chips_word : List ℕ → List ℕ
chips_word [] = 45 ∷ 10 ∷ []
chips_word (c ∷ cs) = map chip_digit (c ∷ cs) ++ (10 ∷ [])

-- a signed number at the end of a line
abbrev pub signed_word : ℤ → List ℕ
signed_word (pos n) = number_word 10 n
signed_word (negsuc n) = 45 ∷ number_word 10 (suc n)

-- `answer N CHIPS`
abbrev pub answered_line : ℕ → List ℕ → List ℕ
answered_line n chips = 97 ∷ 110 ∷ 115 ∷ 119 ∷ 101 ∷ 114 ∷ 32 ∷ (number_word 32 n ++ chips_word chips)

-- ---- the calls on a buffer, by its length: "LENGTH above 131,072 .. answers `error`"

abbrev pub most_length : ℕ
most_length = 131072

-- ---- what `.` stands for after a call: "the channel that the last call handed back", once an open was accepted

abbrev pub handed_back : Option Channel → Channel → Option Channel
handed_back last ch = option_map (λ _. ch) last

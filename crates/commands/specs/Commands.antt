-- What a line of the console asks for: a word and its arguments, one space between, a newline behind the last. Bytes are those of ASCII: 10 is a
-- newline, 32 a space, 46 is `.`.
-- Assumes nothing.
use Rattle.std.specs.Prelude.{ℕ, Bool, true, false, ◌&&◌, List, [], ◌∷◌, drop, Option, Some, None, option_map, ◌==◌, if◌then◌else◌}
use Rattle.machine.specs.declared.Channel.{Channel}
use Rattle.numbers.specs.Numbers.{Read, ◌>>=◌, read_argument}
use Rattle.words.specs.Words.{read_channel}
use Rattle.commands.specs.declared.Command.{Command}
use Rattle.commands.specs.declared.Command.TheVariants as commands

-- whether a text begins with these bytes
abbrev pub begins : List ℕ → List ℕ → Bool
begins [] text = true
begins (b ∷ bs) [] = false
begins (b ∷ bs) (t ∷ ts) = (b == t) && begins bs ts

-- ---- arguments

-- a number that is not the last argument, and one that is
abbrev pub argument : List ℕ → Read ℕ
argument text = read_argument 32 text

abbrev pub last_argument : List ℕ → Read ℕ
last_argument text = read_argument 10 text

-- the last two, and the last three
abbrev pub two_arguments : List ℕ → Option (ℕ × ℕ)
two_arguments text = do
  first ← argument text
  second ← last_argument first.1
  Some (first.0, second.0)

abbrev pub three_arguments : List ℕ → Option (ℕ × ℕ × ℕ)
three_arguments text = do
  first ← argument text
  second ← argument first.1
  third ← last_argument second.1
  Some (first.0, second.0, third.0)

-- A channel: `.` stands for the one that the last call handed back, once an open was accepted.
unfoldable pub read_named : Option Channel → ℕ → List ℕ → Read Channel
read_named last mark text =
    if begins (46 ∷ mark ∷ []) text then option_map (λ ch. (ch, drop 2 text)) last else read_channel mark text

-- ---- commands, each by the text behind its word; where an argument is missing or wrong, it is none

-- `open S P`
unfoldable pub read_open : List ℕ → Option Command
read_open text = do
  signal ← argument text
  prn ← last_argument signal.1
  Some (commands.Open signal.0 prn.0)

-- `seek CH PLACE`
unfoldable pub read_seek : Option Channel → List ℕ → Option Command
read_seek last text = do
  ch ← read_named last 32 text
  place ← last_argument ch.1
  Some (commands.Seek ch.0 place.0)

-- `step CH`
unfoldable pub read_step : Option Channel → List ℕ → Option Command
read_step last text = do
  ch ← read_named last 10 text
  Some (commands.Step ch.0)

-- `window CH COUNT LENGTH AT`
unfoldable pub read_window : Option Channel → List ℕ → Option Command
read_window last text = do
  ch ← read_named last 32 text
  count ← argument ch.1
  bytes ← argument count.1
  at ← last_argument bytes.1
  Some (commands.Window ch.0 count.0 bytes.0 at.0)

-- `chips S P PLACE LENGTH`
unfoldable pub read_chips : List ℕ → Option Command
read_chips text = do
  signal ← argument text
  prn ← argument signal.1
  place ← argument prn.1
  bytes ← last_argument place.1
  Some (commands.Chips signal.0 prn.0 place.0 bytes.0)

-- `reading S PLACE`
unfoldable pub read_reading : List ℕ → Option Command
read_reading text = do
  signal ← argument text
  place ← last_argument signal.1
  Some (commands.Reading signal.0 place.0)

-- `placeof S EPOCH CHIP`
unfoldable pub read_place_of : List ℕ → Option Command
read_place_of text = do
  signal ← argument text
  epoch ← argument signal.1
  chip ← last_argument epoch.1
  Some (commands.PlaceOf signal.0 epoch.0 chip.0)

-- `gap S A B`
unfoldable pub read_gap : List ℕ → Option Command
read_gap text = do
  signal ← argument text
  a ← argument signal.1
  b ← last_argument a.1
  Some (commands.Gap signal.0 a.0 b.0)

-- ---- a line

-- the words of the commands, each with what stands behind it: a space, or the newline of `help`
abbrev pub open_word : List ℕ
open_word = 111 ∷ 112 ∷ 101 ∷ 110 ∷ 32 ∷ []

abbrev pub seek_word : List ℕ
seek_word = 115 ∷ 101 ∷ 101 ∷ 107 ∷ 32 ∷ []

abbrev pub step_word : List ℕ
step_word = 115 ∷ 116 ∷ 101 ∷ 112 ∷ 32 ∷ []

abbrev pub window_word : List ℕ
window_word = 119 ∷ 105 ∷ 110 ∷ 100 ∷ 111 ∷ 119 ∷ 32 ∷ []

abbrev pub chips_word : List ℕ
chips_word = 99 ∷ 104 ∷ 105 ∷ 112 ∷ 115 ∷ 32 ∷ []

abbrev pub reading_word : List ℕ
reading_word = 114 ∷ 101 ∷ 97 ∷ 100 ∷ 105 ∷ 110 ∷ 103 ∷ 32 ∷ []

abbrev pub place_of_word : List ℕ
place_of_word = 112 ∷ 108 ∷ 97 ∷ 99 ∷ 101 ∷ 111 ∷ 102 ∷ 32 ∷ []

abbrev pub gap_word : List ℕ
gap_word = 103 ∷ 97 ∷ 112 ∷ 32 ∷ []

abbrev pub help_word : List ℕ
help_word = 104 ∷ 101 ∷ 108 ∷ 112 ∷ 10 ∷ []

-- a line that is no command is none
unfoldable pub command_of : Option Channel → List ℕ → Option Command
command_of last line =
    if begins open_word line then read_open (drop 5 line)
    else if begins seek_word line then read_seek last (drop 5 line)
    else if begins step_word line then read_step last (drop 5 line)
    else if begins window_word line then read_window last (drop 7 line)
    else if begins chips_word line then read_chips (drop 6 line)
    else if begins reading_word line then read_reading (drop 8 line)
    else if begins place_of_word line then read_place_of (drop 8 line)
    else if begins gap_word line then read_gap (drop 4 line)
    else if begins help_word line then Some commands.Help
    else None

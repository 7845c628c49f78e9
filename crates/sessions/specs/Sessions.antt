-- What is said in a session at the console: the answer to each line, in order, and the channel that `.` stands for from line to line.
-- Assumes nothing.
use Rattle.std.specs.Prelude.{ℕ, ◌≡◌, cond, List, [], ◌∷◌, ◌++◌, eqb, length, take, Option, Some, None}
use Rattle.call_open.specs.Open.{open_reply}
use Rattle.call_seek.specs.Seek.{seek_reply}
use Rattle.call_step.specs.Step.{step_reply}
use Rattle.places.specs.Places.{reading_reply, place_of_reply, gap_reply}
use Rattle.texts.specs.Saying.{rest_of, replies_of, whole}
use Rattle.line_programs.specs.Lines.{ended, unended}
use Rattle.line_programs.specs.Dialogs.{Course, fed_with}
use Rattle.machine.specs.declared.Channel.{Channel}
use Rattle.commands.specs.Commands.{command_of}
use Rattle.commands.specs.declared.Command.{Command}
use Rattle.commands.specs.declared.Command.TheVariants as commands
use Rattle.answer_lines.specs.Lines.{error_line, handed_back}
use Rattle.channel_answers.specs.ChannelAnswers.{open_line, seek_line, step_line, window_answered, opened_last, window_last}
use Rattle.place_answers.specs.PlaceAnswers.{chips_answered, reading_line, place_of_line, gap_line}

-- ---- a command

-- the answer to it, or to a line that is none; `help` is what the command of that name is answered
unfoldable pub answer_of : List ℕ → Option Command → List ℕ
answer_of help (Some (commands.Open signal prn)) = open_line (open_reply signal prn)
answer_of help (Some (commands.Seek ch place)) = seek_line (seek_reply ch place)
answer_of help (Some (commands.Step ch)) = step_line (step_reply ch)
answer_of help (Some (commands.Window ch count bytes at)) = window_answered ch count bytes at
answer_of help (Some (commands.Chips signal prn place bytes)) = chips_answered signal prn place bytes
answer_of help (Some (commands.Reading signal place)) = reading_line (reading_reply signal place)
answer_of help (Some (commands.PlaceOf signal epoch chip)) = place_of_line (place_of_reply signal epoch chip)
answer_of help (Some (commands.Gap signal a b)) = gap_line (gap_reply signal a b)
answer_of help (Some commands.Help) = help
answer_of help None = error_line

-- what `.` stands for after it
unfoldable pub last_of : Option Channel → Option Command → Option Channel
last_of last (Some (commands.Open signal prn)) = opened_last last (open_reply signal prn)
last_of last (Some (commands.Seek ch place)) = handed_back last (seek_reply ch place).channel
last_of last (Some (commands.Step ch)) = handed_back last (step_reply ch).channel
last_of last (Some (commands.Window ch count bytes at)) = window_last last ch count bytes at
last_of last (Some (commands.Chips signal prn place bytes)) = last
last_of last (Some (commands.Reading signal place)) = last
last_of last (Some (commands.PlaceOf signal epoch chip)) = last
last_of last (Some (commands.Gap signal a b)) = last
last_of last (Some commands.Help) = last
last_of last None = last

-- ---- lines

-- before any open was accepted, `.` stands for nothing
abbrev pub nobody : Option Channel
nobody = None

-- the command in a line, which is given without its newline
abbrev pub command_in : Option Channel → List ℕ → Option Command
command_in last line = command_of last (line ++ (10 ∷ []))

-- the answers to lines, in order
abbrev pub answers_to : List ℕ → Option Channel → List (List ℕ) → List ℕ
answers_to help last [] = []
answers_to help last (line ∷ lines) =
    answer_of help (command_in last line) ++ answers_to help (last_of last (command_in last line)) lines

-- a last line that lacks its newline is a line, if it has a byte
abbrev pub last_line : List ℕ → List (List ℕ)
last_line [] = []
last_line (b ∷ bs) = (b ∷ bs) ∷ []

-- the lines of an input, each without its newline
abbrev pub lines : List ℕ → List (List ℕ)
lines input = ended input ++ last_line (unended input)

-- the whole output for a whole input
abbrev pub output : List ℕ → List ℕ → List ℕ
output help input = answers_to help nobody (lines input)

-- what is said to some bytes, of which more may follow
abbrev pub output_so_far : List ℕ → List ℕ → List ℕ
output_so_far help bytes = answers_to help nobody (ended bytes)

-- ---- the same byte by byte

-- Where a session stands: the bytes kept of the line that has no newline yet, and what `.` stands for.
pub record Talk : Type 0 where
  pub line : List ℕ
  pub last : Option Channel

-- So many bytes of a line are kept: a longer line has no newline among them, and is no command.
abbrev pub kept : List ℕ → List ℕ
kept line = take 1024 line

-- the command that a newline ends
abbrev pub asked : Talk → Option Command
asked t = command_of t.last (kept (t.line ++ (10 ∷ [])))

-- one byte more, and what is said to it
abbrev pub next : Talk → ℕ → Talk
next t b = cond (eqb b 10) (record { line = []; last = last_of t.last (asked t) }) (record { line = kept (t.line ++ (b ∷ [])); last = t.last })

abbrev pub said : List ℕ → Talk → ℕ → List ℕ
said help t b = cond (eqb b 10) (answer_of help (asked t)) []

-- the same of any number of bytes more
abbrev pub rest : Talk → List ℕ → Talk
rest t bs = rest_of next t bs

abbrev pub replies : List ℕ → Talk → List ℕ → List ℕ
replies help t bs = replies_of next (said help) t bs

-- what the end of the input has it say
abbrev pub last_answer : List ℕ → Talk → List ℕ
last_answer help t = cond (eqb (length t.line) 0) [] (answer_of help (asked t))

-- what is still to be said to an input, the end included, where a session stands
abbrev pub saying : List ℕ → Talk → List ℕ → List ℕ
saying help t input = replies help t input ++ last_answer help (rest t input)

-- where a session of the code stands, by the bytes kept of the line and what `.` stands for
abbrev pub talk : List ℕ → Option Channel → Talk
talk line last = record { line = line; last = last }

-- one that nothing was fed to
abbrev pub begun : Talk
begun = record { line = []; last = nobody }

-- all that it does with bytes: what `next` keeps is all that is kept
abbrev pub course : List ℕ → Course Talk
course help = record { kept = λ t. t; next = next; said = said help; last = last_answer help }

-- ---- every session

-- However its input is cut into chunks and however long a line is, a session's output is the answers to the input's lines, in order.
abbrev pub EverySession : Type 0
EverySession = (help : List ℕ) (chunks : List (List ℕ)) → fed_with (course help) begun chunks ≡ output help (whole chunks)

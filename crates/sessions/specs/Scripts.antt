-- A script of lines at the console: a line that opens a channel, and behind it lines that each ask for a call on `.`. It makes that list of calls.
-- Assumes nothing.
use Rattle.std.specs.Prelude.{ℕ, ◌≡◌, ◌≤◌, List, [], ◌∷◌, ◌++◌, length, Option, Some, ⊤}
use Rattle.machine.specs.declared.Channel.{Channel}
use Rattle.replies.specs.Reply.{Reply}
use Rattle.call_open.specs.Open.{open_reply, channel}
use Rattle.lists.specs.Lists.{Call, replies, handed_back, ListOfCalls}
use Rattle.commands.specs.declared.Command.{Command}
use Rattle.commands.specs.declared.Command.TheVariants as commands
use Rattle.answer_lines.specs.Lines.{most_length}
use Rattle.channel_answers.specs.ChannelAnswers.{open_line, seek_line, step_line, window_line, buffer}
use Rattle.sessions.specs.Sessions.{last_of, command_in, answers_to}

-- the command for a call on a channel; a window's buffer is named by its length
abbrev pub command_on : Channel → Call → Command
command_on ch (Call.seek place) = commands.Seek ch place
command_on ch Call.step = commands.Step ch
command_on ch (Call.window count bytes at) = commands.Window ch count (length bytes) at

-- a window's buffer is all zeros before the call, and as long as the console allows
abbrev pub IsBlank : Call → Type 0
IsBlank (Call.seek place) = ⊤
IsBlank Call.step = ⊤
IsBlank (Call.window count bytes at) = (bytes ≡ buffer (length bytes)) × (length bytes ≤ most_length)

-- A line asks for a call on `.`, whatever channel that stands for.
pub record Asks (line : List ℕ) (c : Call) : Type 0 where
  pub command : (ch : Channel) → command_in (Some ch) line ≡ Some (command_on ch c)
  pub blank : IsBlank c

-- for one, the line "step ." asks for a step
abbrev pub StepAsks : Type 0
StepAsks = Asks (115 ∷ 116 ∷ 101 ∷ 112 ∷ 32 ∷ 46 ∷ []) Call.step

-- each line for one of the calls, in order
abbrev pub AllAsk : List (List ℕ) → List Call → Type 0
AllAsk [] [] = ⊤
AllAsk [] (c ∷ cs) = ⊥
AllAsk (line ∷ lines) [] = ⊥
AllAsk (line ∷ lines) (c ∷ cs) = Asks line c × AllAsk lines cs

-- the text of the reply to a call, and of those to a list of calls
abbrev pub line_of : Call → Reply → List ℕ
line_of (Call.seek place) r = seek_line r
line_of Call.step r = step_line r
line_of (Call.window count bytes at) r = window_line r

abbrev pub lines_of : List Call → List Reply → List ℕ
lines_of [] rs = []
lines_of (c ∷ cs) [] = []
lines_of (c ∷ cs) (r ∷ rs) = line_of c r ++ lines_of cs rs

-- what `.` stands for after lines
abbrev pub last_after : Option Channel → List (List ℕ) → Option Channel
last_after last [] = last
last_after last (line ∷ lines) = last_after (last_of last (command_in last line)) lines

-- Lines that ask for a list of calls from the channel ch, which a first line opened, wherever in a session they stand.
pub record ScriptOfLines (help : List ℕ) (last : Option Channel) (signal prn : ℕ) (first : List ℕ) (lines : List (List ℕ)) (ch : Channel) (calls : List Call) : Type 0 where
  -- the answers are the texts of the replies to that list of calls, in order, behind that of the open
  pub said : answers_to help last (first ∷ lines) ≡ open_line (channel ch) ++ lines_of calls (replies ch calls)
  -- and `.` stands for the channel that the last of them handed back
  pub dot : last_after last (first ∷ lines) ≡ Some (handed_back ch calls)
  -- of which holds what holds of every list of calls: place, fields, chips, refusals, leaps
  pub list : ListOfCalls signal prn (handed_back ch calls) (replies ch calls) calls

abbrev pub EveryScript : Type 0
EveryScript =
    (help : List ℕ) (last : Option Channel) (signal prn : ℕ) (ch : Channel) → open_reply signal prn ≡ channel ch
    → (first : List ℕ) → command_in last first ≡ Some (commands.Open signal prn)
    → (lines : List (List ℕ)) (calls : List Call) → AllAsk lines calls → ScriptOfLines help last signal prn first lines ch calls

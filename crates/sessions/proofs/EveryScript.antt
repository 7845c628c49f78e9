-- EVERY SCRIPT of lines makes its list of calls.
--     answered_as, left_as    the answer to a call on `.`, and what `.` stands for after it
--     step_asks               there are lines that ask for a call
--     every_script            the answers to a script are the texts of its calls' replies
-- Assumes nothing.
use Prim.Native.Nat.{ℕ}
use mathlib.Core.Bool.{cond}
use mathlib.Core.List.{List, [], ◌∷◌, ◌++◌}
use mathlib.Core.Path.{◌≡◌, refl, sym, ap, ap₂, ◌∙◌}
use lib.ListN.{length}
use borrow.Author.Tests.{le-leb}
use Rattle.std.specs.Prelude.{Option, Some}
use Rattle.machine.specs.declared.Channel.{Channel}
use Rattle.call_open.specs.Open.{OpenReply, open_reply, channel}
use Rattle.call_window.specs.Window.{window_reply}
use Rattle.lists.specs.Lists.{Call, reply_to, replies, handed_back}
use Rattle.lists.proofs.EveryList.{every_list}
use Rattle.commands.specs.Commands.{command_of, read_step, read_named}
use Rattle.commands.specs.declared.Command.{Command}
use Rattle.commands.specs.declared.Command.TheVariants as commands
use Rattle.answer_lines.specs.Lines.{error_line, most_length}
use Rattle.channel_answers.specs.ChannelAnswers.{open_line, window_line, opened_last}
use Rattle.sessions.specs.Sessions.{answer_of, last_of, command_in, answers_to}
use Rattle.sessions.specs.Scripts.{command_on, IsBlank, Asks, AllAsk, line_of, lines_of, last_after, ScriptOfLines, EveryScript, StepAsks}

module _ (help : List ℕ) (ch : Channel) where
  answered_as : (c : Call) → IsBlank c → answer_of help (Some (command_on ch c)) ≡ line_of c (reply_to ch c)
  unfolding answer_of
  answered_as (Call.seek place) blank = refl
  answered_as Call.step blank = refl
  answered_as (Call.window count bytes at) (blank, short) =
      rw (le-leb (length bytes) most_length short) (ap (λ (l : List ℕ). window_line (window_reply ch count l at)) (sym blank))

  left_as : (c : Call) → IsBlank c → last_of (Some ch) (Some (command_on ch c)) ≡ Some (reply_to ch c).channel
  unfolding last_of
  left_as (Call.seek place) blank = refl
  left_as Call.step blank = refl
  left_as (Call.window count bytes at) (blank, short) =
      rw (le-leb (length bytes) most_length short) (ap (λ (l : List ℕ). Some (window_reply ch count l at).channel) (sym blank))

module _ (help : List ℕ) where
  said_along : (ch : Channel) (lines : List (List ℕ)) (calls : List Call) → AllAsk lines calls
      → answers_to help (Some ch) lines ≡ lines_of calls (replies ch calls)
  unfolding replies
  said_along ch [] [] all = refl
  said_along ch [] (c ∷ cs) all = absurd all
  said_along ch (line ∷ lines) [] all = absurd all
  said_along ch (line ∷ lines) (c ∷ cs) (asks, all) =
      ap (λ (command : Option Command). answer_of help command ++ answers_to help (last_of (Some ch) command) lines) (asks.command ch)
      ∙ ap₂ (λ (text : List ℕ) (last : Option Channel). text ++ answers_to help last lines) (answered_as help ch c asks.blank) (left_as help ch c asks.blank)
      ∙ ap (λ (text : List ℕ). line_of c (reply_to ch c) ++ text) (said_along (reply_to ch c).channel lines cs all)

  left_along : (ch : Channel) (lines : List (List ℕ)) (calls : List Call) → AllAsk lines calls → last_after (Some ch) lines ≡ Some (handed_back ch calls)
  unfolding handed_back
  left_along ch [] [] all = refl
  left_along ch [] (c ∷ cs) all = absurd all
  left_along ch (line ∷ lines) [] all = absurd all
  left_along ch (line ∷ lines) (c ∷ cs) (asks, all) =
      ap (λ (last : Option Channel). last_after last lines) (ap (last_of (Some ch)) (asks.command ch) ∙ left_as help ch c asks.blank)
      ∙ left_along (reply_to ch c).channel lines cs all

pub every_script : EveryScript
unfolding answer_of last_of
every_script help last signal prn ch opened first asks lines calls all =
    let text : answer_of help (command_in last first) ≡ open_line (channel ch) = ap (answer_of help) asks ∙ ap open_line opened in
    let dot : last_of last (command_in last first) ≡ Some ch = ap (last_of last) asks ∙ ap (opened_last last) opened in
    record {
      said =
          ap₂ (λ (t : List ℕ) (d : Option Channel). t ++ answers_to help d lines) text dot
          ∙ ap (λ (t : List ℕ). open_line (channel ch) ++ t) (said_along help ch lines calls all);
      dot = ap (λ (d : Option Channel). last_after d lines) dot ∙ left_along help ch lines calls all;
      list = every_list signal prn ch opened calls;
    }

pub step_asks : StepAsks
unfolding command_of read_step read_named
step_asks = record { command = λ ch. refl; blank = tt }

-- What the console answers to each call that hands back a channel, as bytes, and which channel `.` stands for after it. The replies are those that the
-- promises of the calls cite.
-- Assumes nothing.
use Rattle.std.specs.Prelude.{ℕ, cond, List, [], ◌∷◌, ◌++◌, leb, eqb, replicate, Option, Some}
use Rattle.machine.specs.declared.Channel.{Channel}
use Rattle.replies.specs.Reply.{Reply}
use Rattle.call_open.specs.Open.{OpenReply, channel, refusal}
use Rattle.call_window.specs.Window.{window_reply}
use Rattle.texts.specs.Texts.{refused_line}
use Rattle.numbers.specs.Numbers.{number_word}
use Rattle.words.specs.Words.{channel_word}
use Rattle.answer_lines.specs.Lines.{ok, chips_word, error_line, most_length, handed_back}

-- ---- the answers, given the reply

-- `ok CH`
abbrev pub open_line : OpenReply → List ℕ
open_line (channel ch) = ok (channel_word 10 ch)
open_line (refusal n) = refused_line n

-- the line of an accepted call, or `refused N`
abbrev pub replied : Reply → List ℕ → List ℕ
replied r accepted = cond (eqb r.refused 0) accepted (refused_line r.refused)

-- numbers before the rest of a line
abbrev pub numbers_word : List ℕ → List ℕ
numbers_word [] = []
numbers_word (n ∷ ns) = number_word 32 n ++ numbers_word ns

-- `ok LEAPS CH`
abbrev pub seek_line : Reply → List ℕ
seek_line r = replied r (ok (numbers_word r.leaps ++ channel_word 10 r.channel))

-- `ok CHIP CH`
abbrev pub step_line : Reply → List ℕ
step_line r = replied r (ok (numbers_word r.chips ++ channel_word 10 r.channel))

-- `ok CH CHIPS`
abbrev pub window_line : Reply → List ℕ
window_line r = replied r (ok (channel_word 32 r.channel ++ chips_word r.chips))

-- ---- the call on a buffer, by its length: "LENGTH above 131,072 .. answers `error`"

-- "a buffer of LENGTH bytes", before the call
abbrev pub buffer : ℕ → List ℕ
buffer bytes = replicate bytes 0

abbrev pub window_answered : Channel → ℕ → ℕ → ℕ → List ℕ
window_answered ch count bytes at = cond (leb bytes most_length) (window_line (window_reply ch count (buffer bytes) at)) error_line

-- ---- what `.` stands for after a call: "the channel that the last call handed back"

-- an accepted open hands back a channel, and from then on `.` has a meaning; a refused one hands back none
abbrev pub opened_last : Option Channel → OpenReply → Option Channel
opened_last last (channel ch) = Some ch
opened_last last (refusal n) = last

abbrev pub window_last : Option Channel → Channel → ℕ → ℕ → ℕ → Option Channel
window_last last ch count bytes at = cond (leb bytes most_length) (handed_back last (window_reply ch count (buffer bytes) at).channel) last

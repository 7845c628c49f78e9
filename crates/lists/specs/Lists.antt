-- DEMAND 3. What holds of every list of calls: document 01, "Lists of calls". `ListOfCalls`, at the end, is one statement about a whole list, each of its right
-- sides made of the signal, the PRN and the arguments of the calls alone; `EveryList` says it of every list, by the definitions of the calls, and `every_list` of
-- `src/lib.rt` promises it. `call_lists` promises it of the code that runs a list.
-- Assumes nothing.
use Rattle.std.specs.Prelude.{ℕ, ◌+◌, ◌%◌, ◌≤◌, Bool, cond, ◌≡◌, ltb, leb, eqb, length, get_or}
use mathlib.Core.List.{List, [], ◌∷◌, ◌++◌, map, flat_map, reverse}
use Rattle.machine.specs.Signals.{week_of, places_from}
use Rattle.machine.specs.Machine.{opened, advance, chip}
use Rattle.machine.specs.declared.Channel.{Channel}
use Rattle.standard.specs.Standard.{standard}
use Rattle.seeks.specs.Leaps.{leaps_to}
use Rattle.replies.specs.Reply.{Reply, written}
use Rattle.call_open.specs.Open.{open_reply, channel}
use Rattle.call_seek.specs.Seek.{seek_reply}
use Rattle.call_step.specs.Step.{step_reply}
use Rattle.call_window.specs.Window.{most_chips, window_reply}

-- ---- a list of calls, and what they answer

-- "It holds seeks, steps and windows with any arguments, in any order and number, none included."
pub data Call : Type 0 where
  -- place
  seek : ℕ → Call
  step : Call
  -- count, the bytes of the buffer, at
  window : ℕ → List ℕ → ℕ → Call

-- what a call on a channel answers: the definitions that the promises of the calls cite
abbrev pub reply_to : Channel → Call → Reply
reply_to ch (seek place) = seek_reply ch place
reply_to ch step = step_reply ch
reply_to ch (window count buffer at) = window_reply ch count buffer at

-- "The first call gets the opened channel, each later one the channel that the call before handed back, refused or not"
unfoldable pub replies : Channel → List Call → List Reply
replies ch [] = []
replies ch (c ∷ cs) = reply_to ch c ∷ replies (reply_to ch c).channel cs

-- the channel that the last call handed back
unfoldable pub handed_back : Channel → List Call → Channel
handed_back ch [] = ch
handed_back ch (c ∷ cs) = handed_back (reply_to ch c).channel cs

-- ---- one call, by the signal and its arguments alone

-- the number of its refusal, 0 where it is accepted. No call of a list meets refusal 4.
abbrev pub refusal_of : ℕ → Call → ℕ
refusal_of signal (seek place) = cond (ltb place (week_of signal)) 0 3
refusal_of signal step = 0
refusal_of signal (window count buffer at) = cond (leb count most_chips) (cond (leb (at + count) (length buffer)) 0 6) 5

abbrev pub accepted : ℕ → Call → Bool
accepted signal c = eqb (refusal_of signal c) 0

-- the chips that it asks for: a step's one, a window's count
abbrev pub asked : Call → ℕ
asked (seek place) = 0
asked step = 1
asked (window count buffer at) = count

-- how many chips it hands out: "Seeks and refused calls hand out none."
abbrev pub hands_out : ℕ → Call → ℕ
hands_out signal c = cond (accepted signal c) (asked c) 0

-- ---- the place, by the calls so far, THE LATEST FIRST

-- that of the last accepted seek, or 0
unfoldable pub last_sought : ℕ → List Call → ℕ
last_sought signal [] = 0
last_sought signal (seek place ∷ earlier) = cond (accepted signal (seek place)) place (last_sought signal earlier)
last_sought signal (step ∷ earlier) = last_sought signal earlier
last_sought signal (window count buffer at ∷ earlier) = last_sought signal earlier

-- how many chips were handed out since, or from the start
unfoldable pub handed_out_since : ℕ → List Call → ℕ
handed_out_since signal [] = 0
handed_out_since signal (seek place ∷ earlier) = cond (accepted signal (seek place)) 0 (handed_out_since signal earlier)
handed_out_since signal (step ∷ earlier) = handed_out_since signal earlier + hands_out signal step
handed_out_since signal (window count buffer at ∷ earlier) = handed_out_since signal earlier + hands_out signal (window count buffer at)

-- the one plus the other, modulo W
abbrev pub place_after : ℕ → List Call → ℕ
place_after signal done = (last_sought signal done + handed_out_since signal done) % week_of signal

-- What each call gives, in order, given the place where it begins. `done` are the calls before, the latest first.
unfoldable pub along : {A : Type 0} → ℕ → (ℕ → Call → List A) → List Call → List Call → List A
along signal gives done [] = []
along signal gives done (c ∷ cs) = gives (place_after signal done) c ++ along signal gives (c ∷ done) cs

-- ---- places and chips

-- the places that a call passes, beginning at p: "for each accepted step or window, the place where it begins and the ones following, round the week, one
-- for each chip"
abbrev pub passes : ℕ → ℕ → Call → List ℕ
passes signal p c = places_from (week_of signal) p (hands_out signal c)

-- the chip of the stepped machine at a place
unfoldable pub machine_chip : ℕ → ℕ → ℕ → ℕ
machine_chip signal prn place = chip (advance place (opened signal prn))

-- ---- buffers and leaps, of a channel of a signal and PRN

-- the buffer of a window that begins at p: with the machine's chips from `at` onward and every other byte as it was, or, refused, as it was
abbrev pub leaves : ℕ → ℕ → ℕ → Call → List (List ℕ)
leaves signal prn p (seek place) = []
leaves signal prn p step = []
leaves signal prn p (window count buffer at) =
    cond (accepted signal (window count buffer at))
    (written at (map (machine_chip signal prn) (places_from (week_of signal) p count)) buffer)
    buffer
    ∷ []

-- the leaps of an accepted seek, by document 01's rule
abbrev pub tells : ℕ → ℕ → Call → List ℕ
tells signal prn (seek place) = cond (accepted signal (seek place)) (leaps_to signal prn place ∷ []) []
tells signal prn step = []
tells signal prn (window count buffer at) = []

-- ---- the statement

-- A list of calls: what is owed of the channel handed back and of the replies told, one for each call, in order. Each right side is made of the signal, the PRN
-- and the arguments of the calls alone.
pub record ListOfCalls (signal prn : ℕ) (back : Channel) (told : List Reply) (calls : List Call) : Type 0 where
  -- the place: that of the last accepted seek, or 0, plus the chips handed out since, modulo W
  pub place : back.place ≡ (last_sought signal (reverse calls) + handed_out_since signal (reverse calls)) % week_of signal
  -- every field: those of the stepped machine at that place
  pub fields : back ≡ advance (place_after signal (reverse calls)) (opened signal prn)
  -- all chips handed out, in order: the machine's at the places passed
  pub chips : flat_map (λ (r : Reply). r.chips) told ≡ map (machine_chip signal prn) (along signal (passes signal) [] calls)
  -- and those of IS-GPS-200 and IS-GPS-705 there
  pub standards : flat_map (λ (r : Reply). r.chips) told ≡ map (standard signal prn) (along signal (passes signal) [] calls)
  -- how many chips each call hands out: an accepted step one, an accepted window its count, any other call none
  pub counts : map (λ (r : Reply). length r.chips) told ≡ map (hands_out signal) calls
  -- the number of each call, 0 where it is accepted
  pub refusals : map (λ (r : Reply). r.refused) told ≡ map (refusal_of signal) calls
  -- each window's buffer after its call, whole
  pub buffers : flat_map (λ (r : Reply). r.buffers) told ≡ along signal (leaves signal prn) [] calls
  -- the leaps of each accepted seek, by the rule
  pub leaps : flat_map (λ (r : Reply). r.leaps) told ≡ flat_map (tells signal prn) calls
  -- whichever of them: at most 44
  pub few : (i : ℕ) → get_or (flat_map (λ (r : Reply). r.leaps) told) i 0 ≤ 44

-- "A list starts from the channel that an accepted open gives, whatever its signal and PRN; the machine it is compared with has the same two." Here the channel
-- handed back and the replies are those of the definitions.
abbrev pub EveryList : Type 0
EveryList =
    (signal prn : ℕ) (ch : Channel) → open_reply signal prn ≡ channel ch → (calls : List Call)
    → ListOfCalls signal prn (handed_back ch calls) (replies ch calls) calls

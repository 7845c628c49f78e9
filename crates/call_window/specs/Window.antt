-- What window answers, for every input: document 01, "Operations and refusals". "Where several refusals apply, the one written first is given."
-- Assumes nothing.
use Rattle.std.specs.Prelude.{◌≡◌, ℕ, ◌+◌, ◌<◌, ◌≤◌, true, false, cond, List, [], ◌∷◌, map, leb, length, take, drop, Result, Ok, Err}
use Rattle.machine.specs.Signals.{week_of, places_from}
use Rattle.machine.specs.Machine.{opened, advance, chips, in_range, is_signal, is_prn}
use Rattle.machine.specs.declared.Channel.{Channel}
use Rattle.refusals.specs.Refusal.{number_of}
use Rattle.replies.specs.Reply.{Reply, written}
use Rattle.replies.specs.declared.Refused.{Refused}
use Rattle.standard.specs.Standard.{standard}

-- the most chips that one call writes
abbrev pub most_chips : ℕ
most_chips = 65536

-- an accepted window, given the chips, its buffer after the call and the channel
abbrev pub written_with : List ℕ → List ℕ → Channel → Reply
written_with chips after ch = record { refused = 0; leaps = []; chips = chips; buffers = after ∷ []; channel = ch }

-- a refused one, given its buffer after the call
abbrev pub unwritten_with : ℕ → List ℕ → Channel → Reply
unwritten_with n after ch = record { refused = n; leaps = []; chips = []; buffers = after ∷ []; channel = ch }

-- What each case of the answer says, given count, at and the buffer after the call. "Chips handed out are .. in the order of the buffer, the count bytes
-- from `at` onward that an accepted window wrote."
abbrev pub of_windowed : ℕ → ℕ → List ℕ → Result Channel Refused → Reply
of_windowed count at after (Ok ch) = written_with (take count (drop at after)) after ch
of_windowed count at after (Err e) = unwritten_with (number_of e.refusal) after e.channel

-- "writes the chips that count steps would give .. and moves the channel by them .. 4; 5: count above 65,536; 6: `at` plus count exceeds the buffer, the
-- sum taken without wrapping."
unfoldable pub window_reply : Channel → ℕ → List ℕ → ℕ → Reply
window_reply ch count buffer at =
    cond (in_range ch)
    (cond (leb count most_chips)
    (cond (leb (at + count) (length buffer))
    (written_with (chips count ch) (written at (chips count ch) buffer) (advance count ch))
    (unwritten_with 6 buffer ch))
    (unwritten_with 5 buffer ch))
    (unwritten_with 4 buffer ch)

-- The reply to a window, case by case; a refusal leaves the buffer as it came.
pub record Cases (ch : Channel) (count : ℕ) (buffer : List ℕ) (at : ℕ) (reply : Reply) : Type 0 where
  -- a channel out of range is refused with 4, whatever else
  pub out_of_range : in_range ch ≡ false → reply ≡ unwritten_with 4 buffer ch
  -- a count above 65,536 with 5
  pub too_many : in_range ch ≡ true → most_chips < count → reply ≡ unwritten_with 5 buffer ch
  -- and chips that the buffer has no room for from `at` on with 6
  pub no_room : in_range ch ≡ true → count ≤ most_chips → length buffer < at + count → reply ≡ unwritten_with 6 buffer ch
  -- nothing else is refused, and so not a count of 0 with `at` at the buffer's end
  pub accepted : in_range ch ≡ true → count ≤ most_chips → at + count ≤ length buffer
      → reply ≡ written_with (chips count ch) (written at (chips count ch) buffer) (advance count ch)

-- the standards' chips of so many places from one on, round the week
abbrev pub standard_chips : ℕ → ℕ → ℕ → ℕ → List ℕ
standard_chips signal prn place count = map (standard signal prn) (places_from (week_of signal) place count)

-- A channel that steps from an opened one reach: where there is room, the window writes the standards' chips from its place on, and it comes count steps on.
abbrev pub ByTheStandards : Channel → ℕ → List ℕ → ℕ → Reply → Type 0
ByTheStandards ch count buffer at reply =
    (signal prn n : ℕ) → is_signal signal ≡ true → is_prn prn ≡ true → ch ≡ advance n (opened signal prn) → count ≤ most_chips → at + count ≤ length buffer
    → reply
    ≡ written_with (standard_chips signal prn ch.place count) (written at (standard_chips signal prn ch.place count) buffer) (advance (n + count) (opened signal prn))

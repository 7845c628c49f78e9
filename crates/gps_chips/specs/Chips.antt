-- What Chips answers, and what its buffer has after the call, for every input: document 01, "Chips".
-- Assumes nothing.
use Rattle.std.specs.Prelude.{◌≡◌, ℕ, ◌<◌, ◌≤◌, cond, List, [], ◌∷◌, map, ltb, leb, eqb, length, Result, Ok, Err}
use Rattle.machine.specs.Signals.{week_of, places_from}
use Rattle.machine.specs.Machine.{opened, advance, chips, is_signal, is_prn}
use Rattle.machine.specs.declared.Channel.{Channel}
use Rattle.refusals.specs.Refusal.{number_of}
use Rattle.refusals.specs.declared.Refusal.{Refusal}
use Rattle.standard.specs.Standard.{standard}
use Rattle.call_open.specs.Open.{channel, open_reply}
use Rattle.call_seek.specs.Seek.{seek_reply}
use Rattle.call_window.specs.Window.{most_chips, window_reply}

-- what each case of the answer says: "It answers 0 or the refusal."
abbrev pub of_chips : Result Unit Refusal → ℕ
of_chips (Ok done) = 0
of_chips (Err r) = number_of r

-- for a buffer of n bytes: "1, 2, 3, then 5 for its length. It answers 0 or the refusal."
unfoldable pub chips_answer : ℕ → ℕ → ℕ → ℕ → ℕ
chips_answer signal prn place n =
    cond (is_signal signal) (cond (is_prn prn) (cond (ltb place (week_of signal)) (cond (leb n most_chips) 0 5) 3) 2) 1

-- n chips from a place on: "the chips that a window of its length, on a channel opened and brought to that place, writes"
abbrev pub by_the_machine : ℕ → ℕ → ℕ → ℕ → List ℕ
by_the_machine signal prn place n = chips n (advance place (opened signal prn))

-- the same as IS-GPS-200 and IS-GPS-705 write them, "round the week"
abbrev pub by_the_standards : ℕ → ℕ → ℕ → ℕ → List ℕ
by_the_standards signal prn place n = map (standard signal prn) (places_from (week_of signal) place n)

-- the buffer after the call: "fills a whole buffer" with these chips, or, refused, leaves it as it came
unfoldable pub chips_buffer : (ℕ → ℕ → ℕ → ℕ → List ℕ) → ℕ → ℕ → ℕ → List ℕ → List ℕ
chips_buffer chips_from signal prn place buffer =
    cond (eqb (chips_answer signal prn place (length buffer)) 0) (chips_from signal prn place (length buffer)) buffer

-- where the call is accepted, the buffer after it is the one that a window of its length leaves, on a channel opened and brought to that place
abbrev pub AsAWindow : ℕ → ℕ → ℕ → List ℕ → List ℕ → Type 0
AsAWindow signal prn place buffer after =
    (ch : Channel) → open_reply signal prn ≡ channel ch → place < week_of signal → length buffer ≤ most_chips
    → (window_reply (seek_reply ch place).channel (length buffer) buffer 0).buffers ≡ after ∷ []

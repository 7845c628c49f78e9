-- What open answers, for every input: document 01, "Operations and refusals". "Where several refusals apply, the one written first is given."
-- Assumes nothing.
use Rattle.std.specs.Prelude.{◌≡◌, ℕ, true, cond, Result, Ok, Err}
use Rattle.machine.specs.Machine.{opened, is_signal, is_prn}
use Rattle.machine.specs.declared.Channel.{Channel}
use Rattle.refusals.specs.Refusal.{number_of}
use Rattle.refusals.specs.declared.Refusal.{Refusal}

-- a channel, or document 01's number of the refusal: "No channel is returned."
pub data OpenReply : Type 0 where
  channel : Channel → OpenReply
  refusal : ℕ → OpenReply

-- what each case of the answer says
abbrev pub of_opened : Result Channel Refusal → OpenReply
of_opened (Ok ch) = channel ch
of_opened (Err r) = refusal (number_of r)

-- "gives a channel at place 0. 1: signal not 1 to 6. 2: PRN not 1 to 37."
unfoldable pub open_reply : ℕ → ℕ → OpenReply
open_reply signal prn = cond (is_signal signal) (cond (is_prn prn) (channel (opened signal prn)) (refusal 2)) (refusal 1)

-- a channel that open gives is the opened one, of a signal and a PRN that there are
pub record Opened (signal prn : ℕ) (ch : Channel) : Type 0 where
  pub signal_ok : is_signal signal ≡ true
  pub prn_ok : is_prn prn ≡ true
  pub at_place_0 : ch ≡ opened signal prn

-- What open answers to numbers that end in the bits of 1, and to two wrong numbers.
pub record EndValues : Type 0 where
  -- 257 and 4,294,967,297 are refused and not narrowed
  pub signal_257 : (prn : ℕ) → open_reply 257 prn ≡ refusal 1
  pub signal_4294967297 : (prn : ℕ) → open_reply 4294967297 prn ≡ refusal 1
  pub prn_257 : open_reply 1 257 ≡ refusal 2
  pub prn_4294967297 : open_reply 1 4294967297 ≡ refusal 2
  -- the refusal written first is given
  pub first_written : open_reply 0 0 ≡ refusal 1

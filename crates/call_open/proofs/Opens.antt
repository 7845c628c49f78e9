-- What the reply says of open.
--     end_values       257 and 4,294,967,297 are refused and not narrowed; of two refusals the first written is given
--     open_accepted    a channel that open gives is the opened one, of a signal and PRN that there are
-- Assumes nothing.
use mathlib.Core.Bool.{Bool, true, false, cond}
use mathlib.Core.Path.{◌≡◌, refl}
use Prim.Native.Nat.{ℕ}
use Rattle.machine.specs.Machine.{opened, is_signal, is_prn}
use Rattle.machine.specs.declared.Channel.{Channel}
use Rattle.call_open.specs.Open.{channel, refusal, open_reply, EndValues}

pub end_values : EndValues
unfolding open_reply
end_values = record {
  signal_257 = λ prn. refl;
  signal_4294967297 = λ prn. refl;
  prn_257 = refl;
  prn_4294967297 = refl;
  first_written = refl;
}

pub open_accepted : (signal prn : ℕ) (ch : Channel) → open_reply signal prn ≡ channel ch
    → (is_signal signal ≡ true) × (is_prn prn ≡ true) × (ch ≡ opened signal prn)
unfolding open_reply
open_accepted signal prn ch = by (is_signal signal) (is_prn prn)
  where
    by : (s p : Bool) → cond s (cond p (channel (opened signal prn)) (refusal 2)) (refusal 1) ≡ channel ch
        → (s ≡ true) × (p ≡ true) × (ch ≡ opened signal prn)
    by true true e = (refl, refl, cc)
    by true false e = (refl, cc, cc)
    by false p e = (cc, cc, cc)

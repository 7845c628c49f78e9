-- What the reply says of seek.
--     seek_past        a place from W on is refused with 3, seek_out_of_range: and before that a channel out of range with 4
--     seeks_accepted   from wherever steps lead, a seek leads to every place of the week
--     cases            these two, that one, and that of the old channel only signal and PRN matter, of whatever is that reply
-- Assumes nothing.
use mathlib.Core.Bool.{true, false}
use mathlib.Core.Path.{◌≡◌, sym, ap, ap₂, subst, ◌∙◌}
use Prim.Native.Nat.{ℕ, ◌≤◌, ◌<◌}
use borrow.Author.Tests.{lt-ltb, le-ltb}
use Rattle.machine.specs.Signals.{week_of}
use Rattle.machine.specs.Machine.{opened, advance, in_range, is_signal, is_prn}
use Rattle.machine.specs.declared.Channel.{Channel}
use Rattle.machine.proofs.RangeLaw.{reached_in}
use Rattle.week.proofs.LawOfTheWeek.{law_of_the_week}
use Rattle.replies.specs.Reply.{Reply, refused_with}
use Rattle.seeks.specs.Leaps.{leaps_to}
use Rattle.call_seek.specs.Seek.{sought_with, seek_reply, Cases}

module _ (ch : Channel) (place : ℕ) where
  seek_accepted : in_range ch ≡ true → place < week_of ch.signal
      → seek_reply ch place ≡ sought_with (leaps_to ch.signal ch.prn place) (advance place (opened ch.signal ch.prn))
  unfolding seek_reply
  seek_accepted e h = simp (e, lt-ltb place (week_of ch.signal) h)

  pub seek_past : in_range ch ≡ true → week_of ch.signal ≤ place → seek_reply ch place ≡ refused_with 3 ch
  unfolding seek_reply
  seek_past e h = simp (e, le-ltb place (week_of ch.signal) h)

  -- "the one written first"
  pub seek_out_of_range : in_range ch ≡ false → seek_reply ch place ≡ refused_with 4 ch
  unfolding seek_reply
  seek_out_of_range e = simp e

seek_forgets : (ch old : Channel) (place : ℕ) → in_range ch ≡ true → in_range old ≡ true → ch.signal ≡ old.signal → ch.prn ≡ old.prn
    → place < week_of ch.signal → seek_reply ch place ≡ seek_reply old place
seek_forgets ch old place e f s p h =
    seek_accepted ch place e h
    ∙ ap₂ (λ (n i : ℕ). sought_with (leaps_to n i place) (advance place (opened n i))) s p
    ∙ sym (seek_accepted old place f (subst (λ (n : ℕ). place < week_of n) s h))

module _ (signal prn : ℕ) (signal_ok : is_signal signal ≡ true) (prn_ok : is_prn prn ≡ true) where
  pub seeks_accepted : (n place : ℕ) → place < week_of signal
      → seek_reply (advance n (opened signal prn)) place ≡ sought_with (leaps_to signal prn place) (advance place (opened signal prn))
  seeks_accepted n place h =
      let here = advance n (opened signal prn) in
      let same-signal : here.signal ≡ signal = ap (λ (ch : Channel). ch.signal) (law_of_the_week signal prn n) in
      let same-prn : here.prn ≡ prn = ap (λ (ch : Channel). ch.prn) (law_of_the_week signal prn n) in
      seek_accepted here place (reached_in signal prn n signal_ok prn_ok) (subst (λ (s : ℕ). place < week_of s) (sym same-signal) h)
      ∙ ap₂ (λ (s i : ℕ). sought_with (leaps_to s i place) (advance place (opened s i))) same-signal same-prn

pub cases : (ch : Channel) (place : ℕ) (reply : Reply) → reply ≡ seek_reply ch place → Cases ch place reply
cases ch place reply is =
    record {
      out_of_range = λ e. is ∙ seek_out_of_range ch place e;
      past_the_week = λ e h. is ∙ seek_past ch place e h;
      from_everywhere = λ signal prn n signal_ok prn_ok there within.
          is ∙ ap (λ (x : Channel). seek_reply x place) there ∙ seeks_accepted signal prn signal_ok prn_ok n place within;
      forgets = λ old e f s p within. is ∙ seek_forgets ch old place e f s p within;
    }

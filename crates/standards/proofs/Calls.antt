-- Open, seek and window, one after the other: what they refuse and write is what Chips does.
--     reach_refused      the refusal of open or seek
--     window_refused     that of window
--     window_filled      the chips, where none refused, and Chips doesn't either
--     mapped             what `map` makes of an array
-- Assumes nothing.
use mathlib.Core.Bool.{Bool, true, false, cond}
use mathlib.Core.List.{List, map}
use mathlib.Core.Path.{◌≡◌, refl, sym, ap, ◌∙◌}
use Prim.Native.Nat.{ℕ, ◌≤◌, ◌<◌}
use native.Mathlib.Omega.{arith}
use lib.Dec.{ltb}
use lib.ListN.{length, take, drop}
use denote.Param.Members.{Mut, Called}
use Rattle.std.specs.Array.{IsMapOf}
use Rattle.std.proofs.lemmas.List.{take_all, ext_get_or, get_or-map, length-map}
use borrow.Author.Tests.{ltb-true, le-leb}
use Rattle.machine.specs.Signals.{week_of}
use Rattle.machine.specs.Machine.{opened, advance, chips, in_range, is_signal, is_prn}
use Rattle.machine.specs.declared.Channel.{Channel}
use Rattle.machine.proofs.RangeLaw.{reached_in}
use Rattle.refusals.specs.Refusal.{number_of}
use Rattle.replies.specs.Reply.{Reply, written}
use Rattle.replies.specs.declared.Refused.{Refused}
use Rattle.seeks.specs.Leaps.{leaps_to}
use Rattle.call_window.specs.Window.{most_chips, window_reply, written_with, unwritten_with}
use Rattle.call_window.proofs.Windows.{window_accepted}
use Rattle.standard.proofs.EveryChip.{every_window}
use Rattle.gps_chips.specs.Chips.{chips_answer, by_the_standards}
use Rattle.gps_chips.proofs.Answers.{fits}
use Rattle.states.specs.States.{Reached, reached, unreached, reach_reply}
use Rattle.states.proofs.Reaches.{reach_by_tests, channel_there, apart}

module _ (signal prn place n : ℕ) (short : n ≤ most_chips) where
  abbrev led : Reached
  led = reached (leaps_to signal prn place) (advance place (opened signal prn))

  pub reach_refused : (m : ℕ) → unreached m ≡ reach_reply signal prn place → m ≡ chips_answer signal prn place n
  unfolding chips_answer
  reach_refused m is = rw (le-leb n most_chips short) (by (is_signal signal) (is_prn prn) (ltb place (week_of signal)) (is ∙ reach_by_tests signal prn place))
    where
      by : (s p w : Bool) → unreached m ≡ cond s (cond p (cond w led (unreached 3)) (unreached 2)) (unreached 1) → m ≡ cond s (cond p (cond w 0 3) 2) 1
      by true true true q = absurd (apart _ m _ (sym q))
      by true true false q = cc
      by true false w q = cc
      by false p w q = cc

  -- where open and seek lead
  record Led (there : Channel) : Type 0 where
    signal_ok : is_signal signal ≡ true
    prn_ok : is_prn prn ≡ true
    within : ltb place (week_of signal) ≡ true
    is_there : there ≡ advance place (opened signal prn)

  module _ (leaps : ℕ) (there : Channel) (leads : reached leaps there ≡ reach_reply signal prn place) where
    accepted : Led there
    accepted = by (is_signal signal) refl (is_prn prn) refl (ltb place (week_of signal)) refl (leads ∙ reach_by_tests signal prn place)
      where
        by : (s : Bool) → is_signal signal ≡ s → (p : Bool) → is_prn prn ≡ p → (w : Bool) → ltb place (week_of signal) ≡ w
            → reached leaps there ≡ cond s (cond p (cond w led (unreached 3)) (unreached 2)) (unreached 1) → Led there
        by true i true j true k q = record { signal_ok = i; prn_ok = j; within = k; is_there = ap (channel_there there) q }
        by true i true j false k q = absurd (apart leaps 3 there q)
        by true i false j w k q = absurd (apart leaps 2 there q)
        by false i p j w k q = absurd (apart leaps 1 there q)

    none : chips_answer signal prn place n ≡ 0
    none =
        sym
        (fits signal prn place n
        (record { is_signal = accepted.signal_ok; is_prn = accepted.prn_ok; within = ltb-true place (week_of signal) accepted.within; short = short }))

    module _ (buffer : List ℕ) (whole : length buffer ≡ n) where
      taken : window_reply there n buffer 0 ≡ written_with (chips n there) (written 0 (chips n there) buffer) (advance n there)
      taken =
          window_accepted there n buffer 0 (ap in_range accepted.is_there ∙ reached_in signal prn place accepted.signal_ok accepted.prn_ok) short
          (omega (arith, whole))

      pub window_refused : (e : Refused) (after : List ℕ) → unwritten_with (number_of e.refusal) after e.channel ≡ window_reply there n buffer 0
          → number_of e.refusal ≡ chips_answer signal prn place n
      window_refused e after is = ap (λ (r : Reply). r.refused) (is ∙ taken) ∙ sym none

      pub window_filled : (after : List ℕ) (next : Channel) → length after ≡ n → written_with (take n (drop 0 after)) after next ≡ window_reply there n buffer 0
          → (chips_answer signal prn place n ≡ 0) × (after ≡ by_the_standards signal prn place n)
      window_filled after next all is = (
        none,
        sym (take_all n after (omega (arith, all)))
            ∙ ap (λ (r : Reply). r.chips) (is ∙ taken)
            ∙ ap (chips n) accepted.is_there
            ∙ every_window signal prn accepted.signal_ok accepted.prn_ok n place,
      )

-- an array that `map` made, where each call of the closure gives h of what it took
pub mapped : {F : Type 0} (g : Mut F (ℕ × Unit {0}) ℕ) (h : ℕ → ℕ) (f : F) (xs ys : List ℕ) (n : ℕ) → ((p : F) (x y : ℕ) (q : F) → Called g p (x, tt) y q → y ≡ h x) → length xs ≡ n
    → IsMapOf g f xs ys n → ys ≡ map h xs
mapped g h f xs ys n gives long is =
    ext_get_or 0 ys (map h xs) (is.long ∙ sym long ∙ sym (length-map xs h))
    (λ i below.
    let within : i < n = omega (arith, below, is.long) in
    let call = is.at i 0 0 within in
    gives call.0 _ _ call.1 call.2 ∙ sym (get_or-map h xs i 0 0 (omega (arith, within, long))))

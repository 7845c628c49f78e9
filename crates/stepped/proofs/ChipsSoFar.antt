-- A loop that has written the chips of n steps and moved its channel by them.
--     of_signal   a channel in range is of the signal that its number names
--     begun       none written
--     one_more    one more chip written and one more step made
--     ended       all written
-- Assumes nothing.
use Prim.Native.Nat.{ℕ, ◌+◌, ◌<◌, ◌≤◌, zero-le}
use mathlib.Core.Path.{◌≡◌, refl, sym, ap, ◌∙◌}
use mathlib.Core.List.{List, [], ◌∷◌, ◌++◌, append-nil}
use native.Mathlib.Numerals.{add-one}
use native.Mathlib.Omega.{arith}
use lib.ListN.{length, take, drop, set, length-drop, length-append, drop_of_length-le}
use lib.Seq.{set_split}
use Rattle.machine.specs.Signals.{Signal, signal_of}
use Rattle.machine.specs.Machine.{step_as, step, advance, chips}
use Rattle.machine.specs.Ranged.{Ranged}
use Rattle.machine.specs.declared.Channel.{Channel}
use Rattle.machine.proofs.Advance.{advance_none, advance_one, advance-add, advance_keeps, advance_prn}
use Rattle.machine.proofs.Chips.{chips_one, chips-length, chips-add}
use Rattle.machine.proofs.Numbered.{fields_as, step_is, chip_is}
use Rattle.machine.proofs.RangeLaw.{step_ranged}
use Rattle.columns.proofs.Rows.{put_behind}
use Rattle.stepped.specs.Inner.{Of}

-- ---- the channel

pub of_signal : (s : ℕ → Signal) (ch : Channel) → Ranged ch → signal_of ch.signal ch.prn ≡ s ch.prn → Of s ch
of_signal s ch r named = record { ranged = r; named = named; fields = fields_as ch named r }

step_of : (s : ℕ → Signal) (ch : Channel) → Of s ch → Of s (step ch)
unfolding step
step_of s ch o = of_signal s (step ch) (step_ranged ch o.ranged) o.named

advance_of : (s : ℕ → Signal) (n : ℕ) (ch : Channel) → Of s ch → Of s (advance n ch)
advance_of s = advance_keeps (Of s) (step_of s)

-- ---- the slice

-- n chips and then those of k steps more, before what was there
chips_behind : (start : Channel) (n k : ℕ) (old : List ℕ)
    → take n (chips n start ++ drop n old) ++ (chips k (advance n start) ++ drop (n + k) (chips n start ++ drop n old))
    ≡ chips (n + k) start ++ drop (n + k) old
chips_behind start n k old = rw chips-add (put_behind (chips n start) (chips k (advance n start)) old n k (chips-length n start))

-- ---- the loop

-- a slice has the chips of n steps from a channel of a signal before what it had, and the channel is n steps on
pub record SoFar (s : ℕ → Signal) (count : ℕ) (old : List ℕ) (start : Channel) (new : List ℕ) (here : Channel) (n : ℕ) : Type 0 where
  pub bound : n ≤ count
  pub room : count ≤ length old
  pub same : length new ≡ length old
  pub written : new ≡ chips n start ++ drop n old
  pub channel : here ≡ advance n start
  pub prn : here.prn ≡ start.prn
  pub is : Of s here

module _ (s : ℕ → Signal) (count : ℕ) (old : List ℕ) (start : Channel) where
  pub begun : Of s start → count ≤ length old → SoFar s count old start old start 0
  unfolding chips
  begun o room =
      record { bound = zero-le; room = room; same = refl; written = refl; channel = sym (advance_none start); prn = refl; is = o }

  more : (new after : List ℕ) (here next : Channel) (n k : ℕ) → SoFar s count old start new here n → n + k ≤ count
      → after ≡ take n new ++ (chips k here ++ drop (n + k) new) → next ≡ advance k here → SoFar s count old start after next (n + k)
  more new after here next n k w h after_is next-is =
      let written : after ≡ chips (n + k) start ++ drop (n + k) old = after_is ∙ rw (w.channel, w.written) (chips_behind start n k old) in
      let fits : n + k ≤ length old = omega (arith, h, w.room) in
      record {
        bound = h;
        room = w.room;
        same = rw written (simp (length-append, chips-length, length-drop) (omega (arith, fits)));
        written = written;
        channel = next-is ∙ ap (advance k) w.channel ∙ sym (advance-add n k start);
        prn = rw next-is (advance_prn k here) ∙ w.prn;
        is = rw next-is (advance_of s k here w.is);
      }

  pub one_more : (new : List ℕ) (here next : Channel) (n b : ℕ) → SoFar s count old start new here n → n < count
      → b ≡ (s here.prn).chip here → next ≡ step_as (s here.prn) here → SoFar s count old start (set new n b) next (n + 1)
  one_more new here next n b w h b-is next-is =
      let fits : n < length new = omega (arith, h, w.room, w.same) in
      let first : chips 1 here ≡ b ∷ [] = chips_one here ∙ ap (λ (x : ℕ). x ∷ []) (chip_is here w.is.named ∙ sym b-is) in
      more new (set new n b) here next n 1 w (omega (arith, h)) (rw (first, add-one) (set_split new n b fits))
      (next-is ∙ sym (step_is here w.is.named) ∙ sym (advance_one here))

  pub ended : (new : List ℕ) (here : Channel) (n : ℕ) → SoFar s (length old) old start new here n → n ≡ length old
      → (here ≡ advance (length old) start) × (new ≡ chips (length old) start)
  ended new here n w all =
      (rw all at w.channel, rw all at w.written ∙ ap (λ (l : List ℕ). chips (length old) start ++ l) (drop_of_length-le old (omega arith)) ∙ append-nil (chips (length old) start))

-- One call of a list: it finds the channel where the stepped machine stands after the calls before it, and leaves it where the machine stands after one
-- call more.
--     none_done        no call before: place 0
--     Right            what a call's reply has to be, by its arguments and the calls before it
--     call_right       it is that
-- Assumes nothing.
use mathlib.Core.Bool.{Bool, true, false}
use mathlib.Core.List.{List, [], ◌∷◌, map}
use mathlib.Core.Path.{◌≡◌, refl, sym, ap, subst, ◌∙◌}
use Prim.Native.Nat.{ℕ, ◌+◌, ◌%◌, ◌≤◌, ◌<◌}
use native.Mathlib.Nat.{mod-eq_of_lt, zero-mod, add-zero, add_assoc}
use lib.Dec.{ltb, leb, eqb}
use lib.ListN.{length}
use borrow.Author.Tests.{ltb-true, ltb-false, leb-true, leb-false, lt-ltb, le-ltb, le-leb}
use Rattle.machine.specs.Signals.{week_of, places_from}
use Rattle.machine.specs.Machine.{opened, advance, chips, in_range, is_signal, is_prn}
use Rattle.machine.specs.declared.Channel.{Channel}
use Rattle.machine.proofs.Chips.{chips_one}
use Rattle.machine.proofs.Advance.{advance_none, advance_one, advance_last, advance-add}
use Rattle.machine.proofs.RangeLaw.{reached_in}
use Rattle.week.proofs.LawOfTheWeek.{law_of_the_week, weeks_pass}
use Rattle.week.proofs.RoundTheWeek.{chips_round}
use Rattle.replies.specs.Reply.{Reply, written}
use Rattle.call_seek.specs.Seek.{seek_reply}
use Rattle.call_seek.proofs.Seeks.{seek_past, seeks_accepted}
use Rattle.call_step.specs.Step.{step_reply}
use Rattle.call_step.proofs.Steps.{steps_accepted}
use Rattle.call_window.specs.Window.{most_chips, window_reply, unwritten_with}
use Rattle.call_window.proofs.Windows.{window_too_many, window_no_room, window_accepted}
use Rattle.lists.specs.Lists.{Call, reply_to, refusal_of, hands_out, last_sought, handed_out_since, place_after}
use Rattle.lists.specs.Lists.{machine_chip, leaves, tells}

-- ---- the place after one call more

pub none_done : (signal : ℕ) → place_after signal [] ≡ 0
unfolding last_sought handed_out_since
none_done signal = zero-mod (week_of signal)

module _ (signal : ℕ) (done : List Call) where
  place_sought : (place : ℕ) → place < week_of signal → place_after signal (Call.seek place ∷ done) ≡ place
  unfolding last_sought handed_out_since
  place_sought place h = simp (lt-ltb place (week_of signal) h, add-zero) (mod-eq_of_lt h)

  place_not_sought : (place : ℕ) → week_of signal ≤ place → place_after signal (Call.seek place ∷ done) ≡ place_after signal done
  unfolding last_sought handed_out_since
  place_not_sought place h = simp (le-ltb place (week_of signal) h)

  -- n chips on from there
  place_on : ℕ → ℕ
  place_on n = (last_sought signal done + handed_out_since signal done + n) % week_of signal

  place_stepped : place_after signal (Call.step ∷ done) ≡ place_on 1
  unfolding last_sought handed_out_since place_on
  place_stepped = ap (λ (n : ℕ). n % week_of signal) (sym (add_assoc (last_sought signal done) (handed_out_since signal done) 1))

  place_windowed : (count : ℕ) (buffer : List ℕ) (at : ℕ)
      → place_after signal (Call.window count buffer at ∷ done) ≡ place_on (hands_out signal (Call.window count buffer at))
  unfolding last_sought handed_out_since place_on
  place_windowed count buffer at =
      ap (λ (n : ℕ). n % week_of signal) (sym (add_assoc (last_sought signal done) (handed_out_since signal done) (hands_out signal (Call.window count buffer at))))

-- ---- one call of a channel that stands where the stepped machine stands after the calls before

module _ (signal prn : ℕ) where
  -- the stepped machine at a place
  abbrev pub machine_at : ℕ → Channel
  machine_at p = advance p (opened signal prn)

  pub chips_there : (n p : ℕ) → chips n (machine_at p) ≡ map (machine_chip signal prn) (places_from (week_of signal) p n)
  unfolding machine_chip
  chips_there n p = chips_round signal prn n p

  -- n steps on from the place after the calls before
  steps_on : (done : List Call) (n : ℕ) → advance n (machine_at (place_after signal done)) ≡ machine_at (place_on signal done n)
  unfolding place_on
  steps_on done n =
      let so_far : ℕ = last_sought signal done + handed_out_since signal done in
      ap (advance n) (sym (weeks_pass signal prn so_far)) ∙ sym (advance-add so_far n (opened signal prn)) ∙ weeks_pass signal prn (so_far + n)

  -- what a call's reply has to be, the calls before it given
  pub record Right (done : List Call) (c : Call) (r : Reply) : Type 0 where
    pub refused_is : r.refused ≡ refusal_of signal c
    pub leaps_are : r.leaps ≡ tells signal prn c
    pub chips_are : r.chips ≡ chips (hands_out signal c) (machine_at (place_after signal done))
    pub buffers_are : r.buffers ≡ leaves signal prn (place_after signal done) c
    pub channel_is : r.channel ≡ machine_at (place_after signal (c ∷ done))

  module _ (signal_ok : is_signal signal ≡ true) (prn_ok : is_prn prn ≡ true) where
    machine_in : (p : ℕ) → in_range (machine_at p) ≡ true
    machine_in p = reached_in signal prn p signal_ok prn_ok

    module _ (done : List Call) where
      abbrev p : ℕ
      p = place_after signal done

      seek_in : (place : ℕ) → place < week_of signal → Right done (Call.seek place) (seek_reply (machine_at p) place)
      unfolding chips
      seek_in place h =
          let yes = lt-ltb place (week_of signal) h in
          subst (Right done (Call.seek place)) (sym (seeks_accepted signal prn signal_ok prn_ok p place h))
          (record {
            refused_is = simp yes;
            leaps_are = simp yes;
            chips_are = simp yes;
            buffers_are = refl;
            channel_is = ap machine_at (sym (place_sought signal done place h));
          })

      seek_out : (place : ℕ) → week_of signal ≤ place → Right done (Call.seek place) (seek_reply (machine_at p) place)
      unfolding chips
      seek_out place h =
          let no_place = le-ltb place (week_of signal) h in
          let same : (machine_at p).signal ≡ signal = ap (λ (ch : Channel). ch.signal) (law_of_the_week signal prn p) in
          subst (Right done (Call.seek place)) (sym (seek_past (machine_at p) place (machine_in p) (subst (λ (s : ℕ). week_of s ≤ place) (sym same) h)))
          (record {
            refused_is = simp no_place;
            leaps_are = simp no_place;
            chips_are = simp no_place;
            buffers_are = refl;
            channel_is = ap machine_at (sym (place_not_sought signal done place h));
          })

      stepped : Right done Call.step (step_reply (machine_at p))
      stepped =
          subst (Right done Call.step) (sym (steps_accepted signal prn p signal_ok prn_ok))
          (record {
            refused_is = refl;
            leaps_are = refl;
            chips_are = sym (chips_one (machine_at p));
            buffers_are = refl;
            channel_is = advance_last p (opened signal prn) ∙ sym (advance_one (machine_at p)) ∙ steps_on done 1 ∙ ap machine_at (sym (place_stepped signal done));
          })

      module _ (count : ℕ) (buffer : List ℕ) (at : ℕ) where
        abbrev c : Call
        c = Call.window count buffer at

        -- refused with a number, it stays where it was
        refused : (n : ℕ) → eqb n 0 ≡ false → window_reply (machine_at p) count buffer at ≡ unwritten_with n buffer (machine_at p)
            → refusal_of signal c ≡ n → Right done c (window_reply (machine_at p) count buffer at)
        unfolding chips
        refused n some reply number =
            let nothing : hands_out signal c ≡ 0 = simp (number, some) in
            subst (Right done c) (sym reply)
            (record {
              refused_is = sym number;
              leaps_are = refl;
              chips_are = simp (number, some);
              buffers_are = simp (number, some);
              channel_is =
                  sym (advance_none (machine_at p))
                  ∙ ap (λ (m : ℕ). advance m (machine_at p)) (sym nothing)
                  ∙ steps_on done (hands_out signal c)
                  ∙ ap machine_at (sym (place_windowed signal done count buffer at));
            })

        window_in : count ≤ most_chips → at + count ≤ length buffer → Right done c (window_reply (machine_at p) count buffer at)
        window_in few room =
            let number : refusal_of signal c ≡ 0 = simp (le-leb count most_chips few, le-leb (at + count) (length buffer) room) in
            let whole : hands_out signal c ≡ count = simp number in
            subst (Right done c) (sym (window_accepted (machine_at p) count buffer at (machine_in p) few room))
            (record {
              refused_is = sym number;
              leaps_are = refl;
              chips_are = ap (λ (n : ℕ). chips n (machine_at p)) (sym whole);
              buffers_are = simp number (ap (λ (bytes : List ℕ). written at bytes buffer ∷ []) (chips_there count p));
              channel_is =
                  steps_on done count
                  ∙ ap (λ (n : ℕ). machine_at (place_on signal done n)) (sym whole)
                  ∙ ap machine_at (sym (place_windowed signal done count buffer at));
            })

        windowed : Right done c (window_reply (machine_at p) count buffer at)
        windowed = by (leb count most_chips) refl (leb (at + count) (length buffer)) refl
          where
            by : (t : Bool) → leb count most_chips ≡ t → (u : Bool) → leb (at + count) (length buffer) ≡ u
                → Right done c (window_reply (machine_at p) count buffer at)
            by true t true u = window_in (leb-true count most_chips t) (leb-true (at + count) (length buffer) u)
            by true t false u =
                refused 6 refl (window_no_room (machine_at p) count buffer at (machine_in p) (leb-true count most_chips t) (leb-false (at + count) (length buffer) u))
                (simp (t, u))
            by false t u' u =
                refused 5 refl (window_too_many (machine_at p) count buffer at (machine_in p) (leb-false count most_chips t)) (simp t)

      pub call_right : (c : Call) → Right done c (reply_to (machine_at p) c)
      call_right (Call.seek place) = by (ltb place (week_of signal)) refl
        where
          by : (t : Bool) → ltb place (week_of signal) ≡ t → Right done (Call.seek place) (seek_reply (machine_at p) place)
          by true t = seek_in place (ltb-true place (week_of signal) t)
          by false t = seek_out place (ltb-false place (week_of signal) t)
      call_right Call.step = stepped
      call_right (Call.window count buffer at) = windowed count buffer at

-- Where open and seek lead, and what a step from there shows.
--     reach_accepted   the opened channel, as many steps on as the place says
--     reach_prn        refusal 2 of a PRN that there is not
--     reach_by_tests   every case, by the tests of its refusals
--     apart            a channel that is reached is no refusal
--     step_told        whether the channel that the step gives is the opened one
-- Assumes nothing.
use mathlib.Core.Path.{◌≡◌, refl, sym, ap, ◌∙◌}
use mathlib.Core.Bool.{Bool, true, false, cond}
use Prim.Native.Nat.{ℕ, suc, ◌≤◌, ◌<◌}
use native.Mathlib.Omega.{arith}
use lib.Dec.{ltb}
use borrow.Author.Tests.{ltb-true, ltb-false}
use Rattle.machine.specs.Signals.{week_of}
use Rattle.machine.specs.Machine.{opened, advance, in_range, is_signal, is_prn}
use Rattle.machine.specs.declared.Channel.{Channel}
use Rattle.machine.proofs.Advance.{advance_none}
use Rattle.machine.proofs.RangeLaw.{reached_in}
use Rattle.seeks.specs.Leaps.{leaps_to}
use Rattle.call_open.specs.Open.{OpenReply, channel, refusal, open_reply}
use Rattle.call_seek.specs.Seek.{seek_reply}
use Rattle.call_seek.proofs.Seeks.{seeks_accepted, seek_past}
use Rattle.call_step.specs.Step.{stepped_with, step_reply}
use Rattle.pages.specs.declared.values.Value.TheVariants as values
use Rattle.pages.specs.Cells.{Cell, value}
use Rattle.states.specs.States.{Reached, reached, unreached, sought, reach_reply, same_channel, stepped_cell, step_cell}

pub reach_accepted : (signal prn place : ℕ) → is_signal signal ≡ true → is_prn prn ≡ true → place < week_of signal
    → reach_reply signal prn place ≡ reached (leaps_to signal prn place) (advance place (opened signal prn))
unfolding reach_reply open_reply
reach_accepted signal prn place signal_ok prn_ok within =
    rw (signal_ok, prn_ok)
    (ap (λ (ch : Channel). sought (seek_reply ch place)) (sym (advance_none (opened signal prn)))
    ∙ ap sought (seeks_accepted signal prn signal_ok prn_ok 0 place within))

pub reach_prn : (signal prn place : ℕ) → is_signal signal ≡ true → is_prn prn ≡ false → reach_reply signal prn place ≡ unreached 2
unfolding reach_reply open_reply
reach_prn signal prn place signal_ok none = rw (signal_ok, none) refl

reach_past : (signal prn place : ℕ) → is_signal signal ≡ true → is_prn prn ≡ true → week_of signal ≤ place → reach_reply signal prn place ≡ unreached 3
unfolding reach_reply open_reply opened
reach_past signal prn place signal_ok prn_ok past =
    let ranged : in_range (opened signal prn) ≡ true = ap in_range (sym (advance_none (opened signal prn))) ∙ reached_in signal prn 0 signal_ok prn_ok in
    rw (signal_ok, prn_ok) (ap sought (seek_past (opened signal prn) place ranged past))

reach_signal : (signal prn place : ℕ) → is_signal signal ≡ false → reach_reply signal prn place ≡ unreached 1
unfolding reach_reply open_reply
reach_signal signal prn place none = rw none refl

pub reach_by_tests : (signal prn place : ℕ)
    → reach_reply signal prn place
    ≡ cond (is_signal signal)
    (cond (is_prn prn) (cond (ltb place (week_of signal)) (reached (leaps_to signal prn place) (advance place (opened signal prn))) (unreached 3)) (unreached 2))
    (unreached 1)
reach_by_tests signal prn place = by (is_signal signal) refl (is_prn prn) refl (ltb place (week_of signal)) refl
  where
    by : (s : Bool) → is_signal signal ≡ s → (p : Bool) → is_prn prn ≡ p → (w : Bool) → ltb place (week_of signal) ≡ w
        → reach_reply signal prn place
        ≡ cond s (cond p (cond w (reached (leaps_to signal prn place) (advance place (opened signal prn))) (unreached 3)) (unreached 2)) (unreached 1)
    by true i true j true k = reach_accepted signal prn place i j (ltb-true place (week_of signal) k)
    by true i true j false k = reach_past signal prn place i j (ltb-false place (week_of signal) k)
    by true i false j w k = reach_prn signal prn place i j
    by false i p j w k = reach_signal signal prn place i

abbrev number_there : Reached → ℕ
number_there (reached leaps ch) = 0
number_there (unreached n) = suc n

pub apart : (leaps n : ℕ) (ch : Channel) → reached leaps ch ≡ unreached n → ⊥
apart leaps n ch e = let none : ◌≡◌ {A = ℕ} 0 (suc n) = ap number_there e in omega (arith, none)

abbrev pub channel_there : Channel → Reached → Channel
channel_there other (reached leaps ch) = ch
channel_there other (unreached n) = other

abbrev shown : Bool → Cell
shown same = value (cond same values.Opened values.Another)

abbrev channel_or : Channel → OpenReply → Channel
channel_or other (channel ch) = ch
channel_or other (refusal n) = other

pub step_told : (place leaps chip : ℕ) (there next first : Channel) (same : Bool) → reached leaps there ≡ reach_reply 2 1 place → stepped_with chip next ≡ step_reply there
    → channel first ≡ open_reply 2 1 → same ≡ same_channel next first → shown same ≡ step_cell (reach_reply 2 1 place)
unfolding open_reply opened
step_told place leaps chip there next first same at_place stepped opens is =
    let first_is : first ≡ opened 2 1 = ap (channel_or first) opens in
    ap shown is
    ∙ ap (λ (ch : Channel). shown (same_channel next ch)) first_is
    ∙ ap stepped_cell stepped
    ∙ ap step_cell at_place

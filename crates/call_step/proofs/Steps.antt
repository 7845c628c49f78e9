-- What the reply says of step.
--     steps_accepted     a channel that open gives is stepped for ever, and the n-th step gives the machine's chip at n
--     by_the_standards   which is the standards' at the channel's place, of whatever is that reply
-- Assumes nothing.
use mathlib.Core.Bool.{true}
use mathlib.Core.Path.{◌≡◌, sym, ap, ◌∙◌}
use Prim.Native.Nat.{ℕ, suc, ◌%◌}
use Rattle.std.proofs.Common.{add-one}
use Rattle.machine.specs.Signals.{week_of}
use Rattle.machine.specs.Machine.{opened, step, advance, chip, in_range, is_signal, is_prn}
use Rattle.machine.specs.declared.Channel.{Channel}
use Rattle.machine.proofs.Advance.{advance_last}
use Rattle.machine.proofs.RangeLaw.{reached_in}
use Rattle.week.proofs.LawOfTheWeek.{law_of_the_week}
use Rattle.standard.specs.Standard.{standard}
use Rattle.standard.proofs.EveryChip.{every_chip}
use Rattle.replies.specs.Reply.{Reply}
use Rattle.call_step.specs.Step.{stepped_with, step_reply, ByTheStandards}

accepted : (ch : Channel) → in_range ch ≡ true → step_reply ch ≡ stepped_with (chip ch) (step ch)
unfolding step_reply
accepted ch e = simp e

pub steps_accepted : (signal prn n : ℕ) → is_signal signal ≡ true → is_prn prn ≡ true
    → step_reply (advance n (opened signal prn))
    ≡ stepped_with (chip (advance n (opened signal prn))) (advance (suc n) (opened signal prn))
steps_accepted signal prn n s p =
    let here = advance n (opened signal prn) in
    accepted here (reached_in signal prn n s p) ∙ ap (stepped_with (chip here)) (sym (advance_last n (opened signal prn)))

pub by_the_standards : (ch : Channel) (reply : Reply) → reply ≡ step_reply ch → ByTheStandards ch reply
by_the_standards ch reply is signal prn n signal_ok prn_ok there =
    let here = advance n (opened signal prn) in
    let place : ch.place ≡ n % week_of signal = ap (λ (x : Channel). x.place) (there ∙ law_of_the_week signal prn n) in
    let chip_there : chip here ≡ standard signal prn ch.place = every_chip signal prn n signal_ok prn_ok ∙ ap (standard signal prn) (sym place) in
    is
    ∙ ap step_reply there
    ∙ steps_accepted signal prn n signal_ok prn_ok
    ∙ ap (λ (c : ℕ). stepped_with c (advance (suc n) (opened signal prn))) chip_there
    ∙ ap (λ (m : ℕ). stepped_with (standard signal prn ch.place) (advance m (opened signal prn))) (sym (add-one n))

-- What the machine fills the buffer with is what the standards do, and it is what a window there leaves.
-- Assumes nothing.
use mathlib.Core.Path.{ap, subst, ◌∙◌}
use Prim.Native.Nat.{ℕ, ◌<◌}
use lib.ListN.{length}
use Rattle.std.proofs.Common.{rules, arith}
use Rattle.std.proofs.lemmas.Grind.{common_steps}
use Rattle.machine.specs.Signals.{week_of}
use Rattle.gps_chips.specs.Chips.{chips_answer, chips_buffer}
use Rattle.gps_chips.proofs.Answers.{Admitted, filled, agree}
use Rattle.gps_chips.proofs.AsAWindow.{as_a_window}
use Rattle.gps_chips.proofs.gps_chips.Goals as goal

pub returns-clause-chips_by_the_standards : goal.returns-clause-chips_by_the_standards
returns-clause-chips_by_the_standards c =
    let a = c.args in
    let within : a.place < week_of a.signal = subst (λ (w : ℕ). a.place < w) (c.week.ensures ∙ ap week_of c.in_ok-signal.ensures.1) c.if-week-place.false in
    let admitted : Admitted a.signal a.prn a.place (length a.buffer.now) = record { is_signal = c.in_ok-signal.ensures.0; is_prn = c.in_ok-prn.ensures.0; within = within; short = c.if-buffer-gt-MOST_CHIPS.false } in
    let made = rw (c.in_ok-signal.ensures.1, c.in_ok-prn.ensures.1) at c.write_chips.ensures.by_the_machine in
    filled a.signal a.prn a.place a.buffer.now admitted _ made ∙ agree a.signal a.prn a.place a.buffer.now

pub returns-in_err-signal-clause-as_a_window : goal.returns-in_err-signal-clause-as_a_window
unfolding chips_answer chips_buffer
returns-in_err-signal-clause-as_a_window c = as_a_window c.args.signal c.args.prn c.args.place c.args.buffer.now _ (search rules)

pub returns-in_err-prn-clause-as_a_window : goal.returns-in_err-prn-clause-as_a_window
unfolding chips_answer chips_buffer
returns-in_err-prn-clause-as_a_window c = as_a_window c.args.signal c.args.prn c.args.place c.args.buffer.now _ (search rules)

pub returns-clause-as_a_window : goal.returns-clause-as_a_window
unfolding chips_answer chips_buffer
returns-clause-as_a_window c = as_a_window c.args.signal c.args.prn c.args.place c.args.buffer.now _ (grind (arith, common_steps))

-- `steps::stepped` meets its contract.
-- Assumes nothing.
use mathlib.Core.Path.{sym, ap, ◌∙◌}
use Rattle.signals.specs.Signals.{number_of}
use Rattle.machine.proofs.Numbered.{is_cm, fields_as, step_is}
use Rattle.steps.proofs.stepped.Goals as goal

pub step_l2-requires : goal.step_l2-requires
step_l2-requires c =
    let ch = c.args.ch.channel in
    rw (c.start_cm.ensures, c.prn.ensures) (fields_as ch (is_cm ch.signal ch.prn (sym c.signal.ensures ∙ ap number_of c.in-L2Cm.is)) c.args.ch.ranged)

pub returns-in-L2Cm : goal.returns-in-L2Cm
returns-in-L2Cm c =
    let ch = c.args.ch.channel in
    (rw (c.start_cm.ensures, c.prn.ensures) at c.step_l2.ensures) ∙ sym (step_is ch (is_cm ch.signal ch.prn (sym c.signal.ensures ∙ ap number_of c.in-L2Cm.is)))

-- `steps::chip_of` meets its contract.
-- Assumes nothing.
use mathlib.Core.Path.{sym, ap, ◌∙◌}
use Rattle.signals.specs.Signals.{number_of}
use Rattle.machine.proofs.Numbered.{is_cm, chip_is}
use Rattle.steps.proofs.chip_of.Goals as goal

pub returns-in-L2Cm : goal.returns-in-L2Cm
returns-in-L2Cm c =
    let ch = c.args.ch.channel in
    c.chip_l2.ensures ∙ sym (chip_is ch (is_cm ch.signal ch.prn (sym c.signal.ensures ∙ ap number_of c.in-L2Cm.is)))

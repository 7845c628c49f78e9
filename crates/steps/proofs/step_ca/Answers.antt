-- `steps::step_ca` meets its contract.
-- Assumes nothing.
use mathlib.Core.Path.{◌∙◌}
use Rattle.steps.proofs.PlainSteps.{plain_is}
use Rattle.machine.specs.Signals.{g1, g2, signal_ca}
use Rattle.steps.proofs.step_ca.Goals as goal

pub returns : goal.returns
returns c =
    let ch = c.args.ch in
    c.plain_step.ensures
    ∙ plain_is (signal_ca ch.prn).week g1 g2 (signal_ca ch.prn).chip _ _ ch c.requires c.step-first.ensures (λ e. c.step-second.ensures)

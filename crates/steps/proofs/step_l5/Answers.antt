-- `steps::step_l5` meets its contract.
-- Assumes nothing.
use mathlib.Core.Path.{◌∙◌}
use Rattle.steps.proofs.PlainSteps.{plain_is}
use Rattle.machine.specs.Signals.{xa, xb, chip_l5, from_l5}
use Rattle.steps.proofs.step_l5.Goals as goal

pub returns : goal.returns
returns c =
    let ch = c.args.ch in
    c.plain_step.ensures
    ∙ plain_is (from_l5 c.args.start).week xa (xb c.args.start) chip_l5 _ _ ch c.requires c.step-first.ensures (λ e. c.step-second.ensures)

-- `steps::stage_of` meets its contract.
-- Assumes nothing.
use mathlib.Core.Path.{refl}
use Rattle.registers.proofs.Shifts.{stage-lt}
use Rattle.registers.specs.Register.{stage}
use Rattle.steps.proofs.stage_of.Goals as goal

pub returns : goal.returns
unfolding stage
returns c = (refl, stage-lt _ _)

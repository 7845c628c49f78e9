-- `stepped::write` meets its contract.
-- Assumes nothing.
use Rattle.std.proofs.Common.{arith}
use Rattle.stepped.proofs.ChipsSoFar.{begun, one_more}
use Rattle.stepped.proofs.write.Goals as goal

pub loop-chip-init : goal.loop-chip-init
loop-chip-init g c = begun _ _ _ _ c.requires.of (omega arith)

pub loop-chip-preserved : goal.loop-chip-preserved
loop-chip-preserved g c = one_more _ _ _ _ _ _ _ _ _ c.loop-chip.invariant (omega arith) c.chip.ensures c.step-here.ensures

-- `stepped::write` meets its contract.
-- Assumes nothing.
use Rattle.std.proofs.Common.{length}
use Rattle.stepped.proofs.ChipsSoFar.{SoFar}
use Rattle.stepped.proofs.write.Given as goal

abbrev pub invariant-loop-chip : goal.invariant-loop-chip
invariant-loop-chip g l = SoFar (g.F.Family.signal l.fn.family) (length l.initial.out) l.initial.out l.initial.here l.out l.here l.chip-index

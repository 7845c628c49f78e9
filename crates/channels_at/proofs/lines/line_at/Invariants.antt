-- `channels_at::lines::line_at` meets its contract.
-- Assumes nothing.
use Rattle.std.proofs.Common.{◌-◌}
use Rattle.channels_at.proofs.DelayLine.{Filled}
use Rattle.channels_at.proofs.lines.line_at.Given as goal

abbrev pub invariant-loop-at : goal.invariant-loop-at
invariant-loop-at l = Filled l.place l.at l.line

abbrev pub decreases-loop-at : goal.decreases-loop-at
decreases-loop-at l = l.place - l.at

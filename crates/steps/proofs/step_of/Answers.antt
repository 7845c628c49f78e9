-- A step keeps a channel in range.
-- Assumes nothing.
use Rattle.machine.proofs.RangeLaw.{step_in_lem}
use Rattle.machine.proofs.Ranges.{in_range_lem}
use Rattle.steps.proofs.step_of.Goals as goal

pub of-requires : goal.of-requires
of-requires c = rw c.stepped.ensures (step_in_lem c.args.ch.channel (in_range_lem c.args.ch.channel c.args.ch.ranged))

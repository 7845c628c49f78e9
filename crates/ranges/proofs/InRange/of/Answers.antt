-- The test of a channel gives the facts of its ranges.
-- Assumes nothing.
use Rattle.machine.proofs.Ranges.{ranged}
use Rattle.ranges.proofs.InRange.of.Goals as goal

pub invariant_of-result : goal.invariant_of-result
invariant_of-result c = record { ranged = ranged c.args.channel c.requires }

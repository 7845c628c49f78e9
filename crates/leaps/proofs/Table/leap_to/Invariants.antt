-- `Table::leap_to` meets its contract. The loop's invariant: the rows at the ones that are left take the register to where all rows take the start, and the
-- count with the ones that are left makes the ones of the phase.
-- Assumes nothing.
use Rattle.std.proofs.Common.{◌+◌}
use Rattle.std.specs.Int.Count.{ones}
use Rattle.leaps.specs.Leaps.{leaps, rows_of}
use Rattle.leaps.proofs.Turns.{Still}
use Rattle.leaps.proofs.Table.leap_to.Given as goal

abbrev pub invariant-loop-ones : goal.invariant-loop-ones
invariant-loop-ones l =
    Still l.self.width l.self.entries.now (leaps (rows_of l.self.width l.self.entries.now) l.self.width l.self.entries.now l.phase l.fn.from.value)
    (l.fn.from.count + ones l.phase) l.ones l.state.value l.state.count

abbrev pub decreases-loop-ones : goal.decreases-loop-ones
decreases-loop-ones l = l.ones

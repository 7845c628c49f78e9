-- `leaps::Table::leap_to` meets its contract.
-- Assumes nothing.
use Rattle.std.proofs.Common.{arith}
use Rattle.leaps.proofs.Turns.{within, still_next, still_last}
use Rattle.leaps.proofs.Table.leap_to.Goals as goal

pub apply_row-state-requires-clause-row_there : goal.apply_row-state-requires-clause-row_there
apply_row-state-requires-clause-row_there c = within c.requires.covers.few c.loop-ones.invariant (omega arith)

pub loop-ones-preserved : goal.loop-ones-preserved
loop-ones-preserved c =
    rw c.apply_row-state.ensures (still_next c.requires.covers.few c.loop-ones.invariant (omega arith))

pub returns : goal.returns
returns c =
    let there = still_last c.requires.covers.few c.loop-ones.invariant (omega arith) in
    λ j. record { value = there.0 j; count = there.1 j }

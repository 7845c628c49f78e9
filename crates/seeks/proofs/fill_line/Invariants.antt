-- `seeks::fill_line` meets its contract.
-- Assumes nothing.
use Rattle.seeks.specs.Inner.{Filled}
use Rattle.seeks.proofs.fill_line.Given as goal

abbrev pub invariant-loop-at : goal.invariant-loop-at
invariant-loop-at l = Filled l.fn.from l.at l.fill

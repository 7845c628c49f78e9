-- `ranges::fields_in_range` meets its contract.
-- Assumes nothing.
use Rattle.ranges.proofs.fields_in_range.Goals as goal

pub returns-in-L2Cm : goal.returns-in-L2Cm
returns-in-L2Cm c = rw (c.in-L2Cm.is, c.plain_in_range-in-L2Cm.ensures) rw (c.admit-first-in-L2Cm.ensures, c.lacking.ensures)

-- `by_place_p::same` meets its contract.
-- Assumes nothing.
use Rattle.by_place_p.proofs.Feeding.{zeros, ones}
use Rattle.by_place_p.proofs.same.Goals as goal

pub returns-then-one : goal.returns-then-one
returns-then-one c = rw c.if-one.true ones

pub returns-else-one : goal.returns-else-one
returns-else-one c = rw c.if-one.false zeros

-- `columns::write` meets its contract.
-- Assumes nothing.
use Rattle.std.proofs.Common.{◌≡◌, ◌*◌, take}
use Rattle.columns.specs.Columns.{chip_in}
use Rattle.columns.specs.Rows.{row}
use Rattle.columns.proofs.write.Given as goal

abbrev pub invariant-loop-k : goal.invariant-loop-k
invariant-loop-k l = take (l.k * 16) l.out ≡ row (chip_in l.columns) (l.k * 16)

-- `columns::write_last` meets its contract.
-- Assumes nothing.
use Rattle.std.proofs.Common.{◌≡◌, take}
use Rattle.columns.specs.Columns.{chip_in}
use Rattle.columns.specs.Rows.{row}
use Rattle.columns.proofs.write_last.Given as goal

abbrev pub invariant-loop-m : goal.invariant-loop-m
invariant-loop-m l = take l.m l.out ≡ row (chip_in l.fn.columns) l.m

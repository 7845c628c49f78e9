-- `by_place_l5::write` meets its contract.
-- Assumes nothing.
use Rattle.std.proofs.Common.{◌≡◌, ◌+◌, ◌-◌, ◌%◌, ◌≤◌, take, length}
use Rattle.columns.specs.Rows.{row}
use Rattle.by_place_l5.proofs.Sums.{chip_on}
use Rattle.by_place_l5.proofs.write.Given as goal

abbrev pub invariant-loop-written : goal.invariant-loop-written
invariant-loop-written l =
    record {
      in_period : l.here ≡ (l.place + l.written) % 10230;
      within : l.written ≤ length l.out;
      filled : take l.written l.out ≡ row (chip_on l.advance l.place) l.written;
    }

abbrev pub decreases-loop-written : goal.decreases-loop-written
decreases-loop-written l = length l.initial.out - l.written

-- `by_place_p::write` meets its contract.
-- Assumes nothing.
use Rattle.std.proofs.Common.{◌≡◌, ◌+◌, ◌-◌, ◌%◌, ◌≤◌, take, length}
use Rattle.columns.specs.Rows.{row}
use Rattle.by_place_p.proofs.Runs.{chip_at}
use Rattle.by_place_p.proofs.write.Given as goal

abbrev pub invariant-loop-written : goal.invariant-loop-written
invariant-loop-written l =
    (l.here ≡ (l.place + l.written) % 6187104000000) × (l.written ≤ length l.out) × (take l.written l.out ≡ row (chip_at l.prn.number l.place) l.written)

abbrev pub decreases-loop-written : goal.decreases-loop-written
decreases-loop-written l = length l.initial.out - l.written

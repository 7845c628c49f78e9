-- `by_place_l2::write_round` meets its contract.
-- Assumes nothing.
use Rattle.std.proofs.Common.{◌≡◌, ◌+◌, ◌-◌, ◌%◌, ◌<◌, ◌≤◌, ◌^◌, take, length}
use Rattle.registers.specs.Times.{times}
use Rattle.registers.specs.Register.{shift_l2}
use Rattle.columns.specs.Rows.{row}
use Rattle.turns.specs.Turns.{chip_from}
use Rattle.by_place_l2.proofs.write_round.Given as goal

abbrev pub invariant-loop-written : goal.invariant-loop-written
invariant-loop-written l =
    record {
      register_in : l.register < 2 ^ 27;
      register_is : l.register ≡ times shift_l2 l.here l.start;
      here_in : l.here < l.cycle;
      -- behind the last chip of the slice it may be anything
      here_is : l.written < length l.out → l.here ≡ (l.phase + l.written) % l.cycle;
      within : l.written ≤ length l.out;
      filled : take l.written l.out ≡ row (λ j. chip_from l.start ((l.phase + j) % l.cycle)) l.written;
    }

abbrev pub decreases-loop-written : goal.decreases-loop-written
decreases-loop-written l = length l.initial.out - l.written

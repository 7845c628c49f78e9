-- `turns::write` meets its contract.
-- Assumes nothing.
use Rattle.std.proofs.Common.{◌≡◌, ◌*◌, ◌<◌, ◌^◌, take}
use Rattle.registers.specs.Times.{times}
use Rattle.registers.specs.Register.{shift_l2}
use Rattle.columns.specs.Rows.{row}
use Rattle.turns.specs.Turns.{chip_from}
use Rattle.turns.proofs.write.Given as goal

abbrev pub invariant-loop-block : goal.invariant-loop-block
invariant-loop-block l =
    (l.here < 2 ^ 27) × (l.here ≡ times shift_l2 (l.block * 128) l.register) × (take (l.block * 128) l.out ≡ row (chip_from l.register) (l.block * 128))

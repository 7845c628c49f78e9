-- `l2_registers::moved` meets its contract.
-- Assumes nothing.
use Rattle.std.proofs.Common.{arith}
use Rattle.l2_registers.proofs.ByDigits.{moved_is}
use Rattle.l2_registers.proofs.moved.Goals as goal

pub returns : goal.returns
returns c =
    moved_is c.table.result.now c.table.ensures c.args.m c.requires.in_table _ c.args.register _ _ _ _ _ _ _ (omega arith) c.requires.register_in
    (omega arith) (omega arith) (omega arith) (omega arith) (omega arith) (omega arith) (omega arith)

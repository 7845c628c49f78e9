-- `columns::write_last` meets its contract.
-- Assumes nothing.
use Rattle.std.proofs.Common.{arith, length, refl}
use Rattle.columns.specs.Columns.{chip_in}
use Rattle.columns.proofs.Rows.{filled_all, digit_more}
use Rattle.columns.proofs.write_last.Goals as goal

pub loop-m-init : goal.loop-m-init
loop-m-init c = c.requires.begun

pub loop-m-preserved : goal.loop-m-preserved
loop-m-preserved c =
    let l = c.loop-m in
    digit_more (chip_in c.args.columns) l.out l.m _ l.invariant (omega arith) refl

pub returns : goal.returns
returns c =
    let l = c.loop-m in
    filled_all (chip_in c.args.columns) l.out l.m (length c.args.out.now) l.invariant (omega arith) (omega arith)

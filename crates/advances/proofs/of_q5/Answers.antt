-- `advances::of_q5` meets its contract.
-- Assumes nothing.
use Prim.Native.Nat.{◌-◌}
use native.Mathlib.Omega.{arith}
use lib.Dec.{ltb, ltb→lt}
use lib.ListN.{get_or}
use Rattle.registers.proofs.Below.{at}
use Rattle.starts.specs.Starts.{advances_q5}
use Rattle.advances.proofs.of_q5.Goals as goal

pub returns-clause-in_cycle : goal.returns-clause-in_cycle
unfolding advances_q5
returns-clause-in_cycle c =
    let l = c.args.prn.listed in
    rw (c.row.ensures.row) (ltb→lt _ 8191 (at 37 (λ k. ltb (get_or advances_q5 k 0) 8191) tt (c.args.prn.number - 1) (omega (arith, l.first, l.last))))

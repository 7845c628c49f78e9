-- `by_place_ca::delays::of` meets its contract.
-- Assumes nothing.
use Prim.Native.Nat.{◌-◌}
use native.Mathlib.Omega.{arith}
use lib.Dec.{ltb, ltb→lt}
use lib.ListN.{get_or}
use Rattle.registers.proofs.Below.{at}
use Rattle.standard.specs.Tables.{code_delays}
use Rattle.by_place_ca.proofs.delays.of.Goals as goal

pub returns-clause-within : goal.returns-clause-within
unfolding code_delays
returns-clause-within c =
    let l = c.args.prn.listed in
    rw (c.row.ensures.row) (ltb→lt (get_or code_delays (c.args.prn.number - 1) 0) 1023 (at 37 (λ k. ltb (get_or code_delays k 0) 1023) tt (c.args.prn.number - 1) (omega (arith, l.first, l.last))))

-- `starts::stages_ca` meets its contract: the code's pairs of stages are the list's, number for number.
-- Assumes nothing.
use Rattle.std.proofs.Common.{arith, ◌+◌, ◌-◌, ◌*◌, ◌<◌, slice_index_or}
use lib.ListN.{get_or}
use Rattle.registers.proofs.Below.{equal_at}
use Rattle.starts.specs.Starts.{stages_of, stages_ca}
use Rattle.starts.specs.declared.tables.TheConstants.{STAGES}
use Rattle.starts.proofs.stages_ca.Goals as goal

pub returns : goal.returns
unfolding stages_of stages_ca
returns c =
    let row = c.args.prn.number - 1 in
    let listed : row < 37 = omega (arith, c.args.prn.listed.first, c.args.prn.listed.last) in
    let one = equal_at 37 (λ k. (slice_index_or STAGES k (0, 0)).0) (λ k. get_or stages_ca (k * 2) 0) tt row listed in
    let two = equal_at 37 (λ k. (slice_index_or STAGES k (0, 0)).1) (λ k. get_or stages_ca (k * 2 + 1) 0) tt row listed in
    rw c.row.ensures.row (λ j. record { first = one j; second = two j })

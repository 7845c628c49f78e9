-- `columns::write` meets its contract.
-- Assumes nothing.
use Rattle.std.proofs.Common.{◌+◌, ◌-◌, ◌*◌, ◌/◌, ◌%◌, ◌^◌, ◌≡◌, ◌∙◌, arith, get_or, length, sym}
use Rattle.columns.specs.Columns.{chip_in}
use Rattle.columns.proofs.Lanes.{stored, chip_of_lane}
use Rattle.columns.proofs.Rows.{part_filled, filled_none}
use Rattle.columns.proofs.write.Goals as goal

pub loop-k-init : goal.loop-k-init
loop-k-init c = filled_none (chip_in c.args.columns) c.args.out.now

pub loop-k-preserved : goal.loop-k-preserved
loop-k-preserved c =
    let l = c.loop-k in
    let v = c.args.columns in
    let n = l.k * 16 in
    let sixteen : n + 16 - n ≡ 16 = omega arith in
    part_filled (chip_in v) l.out n (λ j. get_or v j 0 / 2 ^ l.k % 2) _ _ _ l.invariant
    (stored (λ c. c / 2 ^ l.k % 2) v c.chips_at.result l.out n _ (c.fits-columns.0 ∙ sym sixteen) c.chips_at.ensures (omega arith))
    (λ j h. chip_of_lane v l.k j (omega (arith, h))) (omega arith) (omega arith)

pub write_last-requires-clause-begun : goal.write_last-requires-clause-begun
write_last-requires-clause-begun c =
    let l = c.loop-k in
    let n : l.k ≡ length c.args.out.now / 16 = omega arith in
    rw n at l.invariant

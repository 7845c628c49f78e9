-- `columns::write_four` meets its contract.
-- Assumes nothing.
use Rattle.std.proofs.Common.{◌≡◌, ◌+◌, ◌-◌, ◌*◌, ◌/◌, arith, length, ◌≤◌}
use Rattle.columns.specs.Columns.{sum_chip}
use Rattle.columns.proofs.Sums.{next_phase, block_tells}
use Rattle.columns.proofs.Rows.{part_filled, rest_filled, filled_none}
use Rattle.columns.proofs.write_four.Goals as goal

pub loop-block-init : goal.loop-block-init
loop-block-init c =
    let from = c.args.from in
    let r = c.requires in (
      omega (arith, r.phase_a),
      omega (arith, r.phase_b),
      omega (arith, r.phase_c),
      omega (arith, r.phase_d),
      λ x y z w ra rb rc rd. filled_none (sum_chip x y z w from) c.args.out.now,
    )

pub loop-block-preserved : goal.loop-block-preserved
loop-block-preserved c =
    let l = c.loop-block in
    let from = c.args.from in
    let i = l.block * 128 in
    let at = l.invariant in
    let next : (l.block + 1) * 128 ≡ i + 128 = omega arith in (
      next_phase from.a i _ 4092 l.qa _ at.0 c.on-qa.ensures next,
      next_phase from.b i _ 4093 l.qb _ at.1 c.on-qb.ensures next,
      next_phase from.c i _ 4092 l.qc _ at.2 c.on-qc.ensures next,
      next_phase from.d i _ 4093 l.qd _ at.3 c.on-qd.ensures next,
      λ x y z w ra rb rc rd.
          part_filled (sum_chip x y z w from) l.out i _ _ _ _ (at.4 x y z w ra rb rc rd) c.write.ensures
          (λ j h. block_tells _ _ _ _ x y z w ra rb rc rd from i l.qa l.qb l.qc l.qd at.0 at.1 at.2 at.3 _ _ _ _
          c.sixteen.ensures c.sixteen-in-loop-block.ensures c.sixteen-in-loop-block-2.ensures c.sixteen-in-loop-block-3.ensures j (omega (arith, h)))
          (omega arith) (omega arith),
    )

pub returns : goal.returns
returns c x y z w ra rb rc rd =
    let l = c.loop-block in
    let n = length c.args.out.now in
    let from = c.args.from in
    let i = n / 128 * 128 in
    let blocks : l.block ≡ n / 128 = omega arith in
    let at = rw blocks at l.invariant in
    let rest = length l.out - i in
    let few : rest ≤ 128 = omega arith in
    rest_filled (sum_chip x y z w from) l.out i _ _ rest n (at.4 x y z w ra rb rc rd)
    c.write-2.ensures
    (λ j h. block_tells _ _ _ _ x y z w ra rb rc rd from i l.qa l.qb l.qc l.qd at.0 at.1 at.2 at.3 _ _ _ _
    c.sixteen-2.ensures c.sixteen-3.ensures c.sixteen-4.ensures c.sixteen-5.ensures j (omega (arith, h, few)))
    (omega arith) (omega arith)

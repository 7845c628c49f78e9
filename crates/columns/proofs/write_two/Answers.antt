-- `columns::write_two` meets its contract.
-- Assumes nothing.
use Rattle.std.proofs.Common.{◌≡◌, ℕ, ◌+◌, ◌-◌, ◌*◌, ◌/◌, ◌%◌, ◌<◌, ◌≤◌, arith, length, ap, sym, ◌∙◌, subst}
use Rattle.std.proofs.Math.Nat.{mod-lt, mod-eq_of_lt, add-zero}
use Rattle.columns.specs.Columns.{sum_two}
use Rattle.columns.proofs.Sums.{next_phase, two_tell}
use Rattle.columns.proofs.Rows.{part_filled, rest_filled, filled_none}
use Rattle.columns.proofs.write_two.Goals as goal

start : (p c : ℕ) → p < c → p ≡ (p + 0) % c
start p c h = sym (ap (λ x. x % c) (add-zero p) ∙ mod-eq_of_lt h)

pub loop-block-init : goal.loop-block-init
loop-block-init c =
    let from = c.args.from in
    let r = c.requires in (
      start from.a from.cycle_a r.phase_a,
      start from.b from.cycle_b r.phase_b,
      r.phase_a,
      r.phase_b,
      λ x y ra rb. filled_none (sum_two x y from) c.args.out.now,
    )

pub loop-block-preserved : goal.loop-block-preserved
loop-block-preserved c =
    let l = c.loop-block in
    let from = c.args.from in
    let r = c.requires in
    let i = l.block * 128 in
    let at = l.invariant in
    let some_a : 0 < from.cycle_a = omega (arith, r.long_a) in
    let some_b : 0 < from.cycle_b = omega (arith, r.long_b) in
    let next : (l.block + 1) * 128 ≡ i + 128 = omega arith in (
      next_phase from.a i _ from.cycle_a l.qa _ at.0 c.on-qa.ensures next,
      next_phase from.b i _ from.cycle_b l.qb _ at.1 c.on-qb.ensures next,
      subst (λ q. q < from.cycle_a) (sym c.on-qa.ensures) (mod-lt (l.qa + 128) some_a),
      subst (λ q. q < from.cycle_b) (sym c.on-qb.ensures) (mod-lt (l.qb + 128) some_b),
      λ x y ra rb.
          part_filled (sum_two x y from) l.out i _ _ _ _ (at.4 x y ra rb) c.write.ensures
          (λ j h. two_tell _ _ x y from ra rb i l.qa l.qb at.0 at.1 at.2 at.3 _ _ c.sixteen.ensures c.sixteen-in-loop-block.ensures j (omega (arith, h)))
          (omega arith) (omega arith),
    )

pub returns : goal.returns
returns c x y ra rb =
    let l = c.loop-block in
    let n = length c.args.out.now in
    let from = c.args.from in
    let i = n / 128 * 128 in
    let blocks : l.block ≡ n / 128 = omega arith in
    let at = rw blocks at l.invariant in
    let rest = length l.out - i in
    let few : rest ≤ 128 = omega arith in
    rest_filled (sum_two x y from) l.out i _ _ rest n (at.4 x y ra rb)
    c.write-2.ensures
    (λ j h. two_tell _ _ x y from ra rb i l.qa l.qb at.0 at.1 at.2 at.3 _ _ c.sixteen-2.ensures c.sixteen-3.ensures j (omega (arith, h, few)))
    (omega arith) (omega arith)

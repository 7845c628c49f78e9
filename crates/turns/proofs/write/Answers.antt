-- `turns::write` meets its contract.
-- Assumes nothing.
use Rattle.std.proofs.Common.{◌≡◌, ℕ, ◌+◌, ◌-◌, ◌*◌, ◌/◌, ◌%◌, ◌^◌, ◌<◌, ◌≤◌, length, arith, sym, ap, ◌∙◌, subst}
use Rattle.registers.specs.Times.{times}
use Rattle.registers.specs.Register.{shift_l2}
use Rattle.registers.proofs.Repeat.{times-add, times_none}
use Rattle.registers.proofs.Shifts.{l2, times_keeps}
use Rattle.columns.proofs.Rows.{part_filled, rest_filled, filled_none}
use Rattle.turns.specs.Turns.{chip_from}
use Rattle.turns.proofs.write.Goals as goal

-- j chips on from where i lead
on : (r here i j : ℕ) → here ≡ times shift_l2 i r → times shift_l2 j here ≡ times shift_l2 (i + j) r
on r here i j e = ap (times shift_l2 j) e ∙ sym (times-add shift_l2 i j r)

pub loop-block-init : goal.loop-block-init
loop-block-init c = (c.requires, sym (times_none shift_l2 c.args.register), filled_none (chip_from c.args.register) c.args.out.now)

pub loop-block-preserved : goal.loop-block-preserved
loop-block-preserved c =
    let l = c.loop-block in
    let r = c.args.register in
    let i = l.block * 128 in
    let at = l.invariant in
    let next : (l.block + 1) * 128 ≡ i + 128 = omega arith in (
      subst (λ x. x < 2 ^ 27) (sym c.turned-here.ensures) (times_keeps l2 128 l.here at.0),
      c.turned-here.ensures ∙ on r l.here i 128 at.1 ∙ ap (λ n. times shift_l2 n r) (sym next),
      part_filled (chip_from r) l.out i _ _ _ _ at.2 c.write.ensures
          (λ j h. c.turn.ensures j (omega (arith, h)) ∙ ap (λ x. x % 2) (on r l.here i j at.1)) (omega arith) (omega arith),
    )

pub returns : goal.returns
returns c =
    let l = c.loop-block in
    let r = c.args.register in
    let n = length c.args.out.now in
    let i = n / 128 * 128 in
    let blocks : l.block ≡ n / 128 = omega arith in
    let at = rw blocks at l.invariant in
    let rest = length l.out - i in
    let few : rest ≤ 128 = omega arith in
    rest_filled (chip_from r) l.out i _ _ rest n at.2
    c.write-2.ensures
    (λ j h. c.turn-2.ensures j (omega (arith, h, few)) ∙ ap (λ x. x % 2) (on r l.here i j at.1))
    (omega arith) (omega arith)

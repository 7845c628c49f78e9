-- `l2_registers::register_at` meets its contract.
-- Assumes nothing.
use Rattle.std.proofs.Common.{◌≡◌, ◌*◌, ◌^◌, ◌<◌, ◌≤◌, arith, sym, ap, ◌∙◌, subst, refl}
use native.Mathlib.Numerals.{add-one}
use Rattle.registers.specs.Times.{times}
use Rattle.registers.specs.Register.{shift_l2}
use Rattle.registers.proofs.Repeat.{times_none}
use Rattle.registers.proofs.Shifts.{l2, times_keeps}
use Rattle.l2_registers.proofs.ByDigits.{left, fewer}
use Rattle.l2_registers.proofs.register_at.Goals as goal

pub loop-i-preserved : goal.loop-i-preserved
loop-i-preserved c =
    let l = c.loop-i in
    let there = c.moved-register.result in
    rw (add-one l.i) (
      subst (λ r. r < 2 ^ 27) (sym c.moved-register.ensures) (times_keeps l2 _ l.register l.invariant.0),
      left l.register l.rest l.i _ there refl c.moved-register.ensures ∙ l.invariant.1,
      fewer l.rest l.i c.args.phase l.invariant.2,
    )

pub returns : goal.returns
returns c =
    let l = c.loop-i in
    let last : l.i ≡ 7 = omega arith in
    let most : l.rest * 8 ^ 7 ≤ c.args.phase = subst (λ k. l.rest * 8 ^ k ≤ c.args.phase) last l.invariant.2 in
    let none : l.rest ≡ 0 = omega (arith, most) in
    let nothing : l.rest * 8 ^ l.i ≡ 0 = ap (λ n. n * 8 ^ l.i) none ∙ omega arith in
    sym (times_none shift_l2 l.register) ∙ ap (λ n. times shift_l2 n l.register) (sym nothing) ∙ l.invariant.1

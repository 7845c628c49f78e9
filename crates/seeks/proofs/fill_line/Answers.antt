-- `seeks::fill_line` meets its contract.
-- Assumes nothing.
use mathlib.Core.Path.{◌≡◌, subst}
use Prim.Native.Nat.{ℕ, ◌<◌}
use native.Mathlib.Omega.{arith}
use Rattle.machine.specs.Signals.{week_p}
use Rattle.seeks.specs.Inner.{Filled}
use Rattle.seeks.proofs.Filling.{third_in, fourth_in, delay_in, filled_first, filled_next}
use Rattle.seeks.proofs.fill_line.Goals as goal

pub loop-at-init : goal.loop-at-init
loop-at-init c =
    rw c.none.ensures (filled_first c.args.from c.args.third c.args.fourth c.requires.third_there c.requires.fourth_there)

pub step-fill-requires : goal.step-fill-requires
step-fill-requires c =
    let l = c.loop-at in
    let a = c.args in
    let h : l.at < week_p = omega (arith, c.requires.place_in_week) in
    record {
      third_in = third_in a.from l.at l.fill h l.invariant;
      fourth_in = fourth_in a.from l.at l.fill h l.invariant;
      delay_in = delay_in a.from l.at l.fill l.invariant;
      steps_in = omega (arith, l.invariant.steps_are, c.requires.few);
    }

pub loop-at-preserved : goal.loop-at-preserved
loop-at-preserved c =
    let l = c.loop-at in
    let a = c.args in
    filled_next a.from l.at l.fill c.step-fill.result (omega arith) (omega (arith, c.requires.place_in_week)) l.invariant c.step-fill.ensures

pub returns : goal.returns
returns c =
    let l = c.loop-at in
    let a = c.args in
    let end : l.at ≡ a.place = omega arith in
    subst (λ (w : ℕ). Filled a.from w l.fill) end l.invariant

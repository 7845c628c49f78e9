-- `seeks::land_l5` meets its contract.
-- Assumes nothing.
use mathlib.Core.Path.{ap, ◌∙◌}
use native.Mathlib.Omega.{arith}
use lib.Dec.{lit<, lit≤}
use Rattle.machine.specs.Signals.{week_l5, xa, xb}
use Rattle.week.specs.Week.{course_xa, course_xb}
use Rattle.leaps.specs.declared.rows.Counted.{Counted}
use Rattle.machine.specs.declared.Generator.{Generator}
use Rattle.seeks.proofs.Landing.{counts_few, plain_landed_lem}
use Rattle.seeks.proofs.land_l5.Goals as goal

pub seek-xb-requires : goal.seek-xb-requires
seek-xb-requires c =
    let few = counts_few xa course_xa c.args.place _ 13 c.seek-xa.result c.seek-xa.ensures (lit< tt) (lit≤ tt) in
    record { start_in = c.requires.start_in_register; asked = record { place_in = c.requires.place_in_week; count_in = omega (arith, few, c.none.ensures) } }

pub returns : goal.returns
returns c =
    let a = c.args in
    c.plain_at.ensures
    ∙ plain_landed_lem week_l5 xa (xb a.start) course_xa course_xb _ _ a.prn.number a.place c.requires.place_in_week _ _ _
    (ap (λ (x : Counted Generator). x.value) c.seek-xa.ensures)
    (ap (λ (x : Counted Generator). x.value) c.seek-xb.ensures)
    (omega (arith, c.none.ensures, c.number.ensures, ap (λ (x : Counted Generator). x.count) c.seek-xa.ensures, ap (λ (x : Counted Generator). x.count) c.seek-xb.ensures))

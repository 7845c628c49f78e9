-- `seeks::land_ca` meets its contract.
-- Assumes nothing.
use mathlib.Core.Path.{ap, ◌∙◌}
use native.Mathlib.Omega.{arith}
use lib.Dec.{lit<, lit≤}
use Rattle.machine.specs.Signals.{week_ca, g1, g2}
use Rattle.week.specs.Week.{course_g}
use Rattle.leaps.specs.declared.rows.Counted.{Counted}
use Rattle.machine.specs.declared.Generator.{Generator}
use Rattle.seeks.proofs.Landing.{counts_few, plain_landed_lem}
use Rattle.seeks.proofs.land_ca.Goals as goal

pub seek-g2-requires : goal.seek-g2-requires
seek-g2-requires c =
    let few = counts_few g1 course_g c.args.place _ 10 c.seek-g1.result c.seek-g1.ensures (lit< tt) (lit≤ tt) in
    record { start_in = lit< tt; asked = record { place_in = c.requires; count_in = omega (arith, few, c.none.ensures) } }

pub returns : goal.returns
returns c =
    let a = c.args in
    c.plain_at.ensures
    ∙ plain_landed_lem week_ca g1 g2 course_g course_g _ 1 a.prn.number a.place c.requires _ _ _
    (ap (λ (x : Counted Generator). x.value) c.seek-g1.ensures)
    (ap (λ (x : Counted Generator). x.value) c.seek-g2.ensures)
    (omega (arith, c.none.ensures, c.number.ensures, ap (λ (x : Counted Generator). x.count) c.seek-g1.ensures, ap (λ (x : Counted Generator). x.count) c.seek-g2.ensures))

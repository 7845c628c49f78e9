-- `seeks::land_p` meets its contract.
-- Assumes nothing.
use mathlib.Core.Path.{ap}
use native.Mathlib.Omega.{arith}
use lib.Dec.{lit<, lit≤}
use Rattle.machine.specs.Signals.{x1a, x1b, x2a}
use Rattle.week.specs.Week.{course_x1a, course_x1b, course_x2a}
use Rattle.leaps.specs.declared.rows.Counted.{Counted}
use Rattle.machine.specs.declared.Generator.{Generator}
use Rattle.seeks.proofs.Landing.{counts_few, p_landed}
use Rattle.seeks.proofs.land_p.Goals as goal

pub seek-x1b-requires : goal.seek-x1b-requires
seek-x1b-requires c =
    let place = c.args.place in
    let few = counts_few x1a course_x1a place _ 12 c.seek-x1a.result c.seek-x1a.ensures (lit< tt) (lit≤ tt) in
    record { start_in = lit< tt; asked = record { place_in = c.requires; count_in = omega (arith, few, c.none.ensures) } }

pub seek-x2a-requires : goal.seek-x2a-requires
seek-x2a-requires c =
    let place = c.args.place in
    let few = counts_few x1a course_x1a place _ 12 c.seek-x1a.result c.seek-x1a.ensures (lit< tt) (lit≤ tt) in
    let few₂ = counts_few x1b course_x1b place _ 12 c.seek-x1b.result c.seek-x1b.ensures (lit< tt) (lit≤ tt) in
    record {
      start_in = lit< tt;
      asked = record { place_in = omega (arith, c.filled_from-from.ensures, c.requires); count_in = omega (arith, few, few₂, c.none.ensures) };
    }

pub seek-x2b-requires : goal.seek-x2b-requires
seek-x2b-requires c =
    let place = c.args.place in
    let few = counts_few x1a course_x1a place _ 12 c.seek-x1a.result c.seek-x1a.ensures (lit< tt) (lit≤ tt) in
    let few₂ = counts_few x1b course_x1b place _ 12 c.seek-x1b.result c.seek-x1b.ensures (lit< tt) (lit≤ tt) in
    let few₃ = counts_few x2a course_x2a _ _ 12 c.seek-x2a.result c.seek-x2a.ensures (lit< tt) (lit≤ tt) in
    record {
      start_in = lit< tt;
      asked = record { place_in = omega (arith, c.filled_from-from.ensures, c.requires); count_in = omega (arith, few, few₂, few₃, c.none.ensures) };
    }

pub fill_line-filled-requires : goal.fill_line-filled-requires
fill_line-filled-requires c =
    let from_is = c.filled_from-from.ensures in
    record {
      from_first = omega (arith, from_is);
      few = omega (arith, from_is);
      place_in_week = c.requires;
      third_there = ap (λ (x : Counted Generator). x.value) c.seek-x2a.ensures;
      fourth_there = ap (λ (x : Counted Generator). x.value) c.seek-x2b.ensures;
    }

pub returns-clause-sought : goal.returns-clause-sought
returns-clause-sought c =
    let a = c.args in
    rw (c.number.ensures, c.number-2.ensures)
    (p_landed 2 a.prn.number a.place c.filled_from-from.result
    c.seek-x1a.result c.seek-x1b.result
    c.seek-x2a.result c.seek-x2b.result c.fill_line-filled.result
    c.filled_from-from.ensures
    (rw c.none.ensures at c.seek-x1a.ensures) c.seek-x1b.ensures
    c.seek-x2a.ensures c.seek-x2b.ensures c.fill_line-filled.ensures)

pub returns-clause-steps : goal.returns-clause-steps
returns-clause-steps c = omega (arith, c.fill_line-filled.ensures.steps_are, c.filled_from-from.ensures)

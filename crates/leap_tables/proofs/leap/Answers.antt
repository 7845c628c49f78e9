-- `leap_tables::leap` meets its contract, by the law of leaps.
-- Assumes nothing.
use Rattle.leaps.proofs.LawOfLeaps.{by_table}
use Rattle.leap_tables.proofs.leap.Goals as goal

pub leap_to-requires-clause-covers : goal.leap_to-requires-clause-covers
leap_to-requires-clause-covers g c =
    let t = c.table.ensures.tested in
    let w = c.requires in
    record { few = t.few; phase_in = rw t.rows_are w.phase_in; count_in = w.count_in }

pub returns : goal.returns
returns g c =
    let t = c.table.ensures.tested in
    by_table (rw t.width_is g.met.R.Leaping.linear) _ _ t.right (rw (t.rows_are, t.width_is) c.requires) c.leap_to.ensures

-- `seeks::land_l2` meets its contract.
-- Assumes nothing.
use lib.Dec.{lit<}
use Rattle.seeks.proofs.Landing.{l2_landed}
use Rattle.seeks.proofs.land_l2.Goals as goal

pub seek-own-requires : goal.seek-own-requires
seek-own-requires g c =
    let p = c.requires in
    rw (c.none.ensures, g.met.C.L2Code.kind_is, p.by_whole_cycles) record { start_in = p.start_in_register; asked = record { place_in = p.place_in_week; count_in = lit< tt } }

pub returns : goal.returns
returns g c =
    let a = c.args in
    let there = rw (c.none.ensures, g.met.C.L2Code.kind_is, c.requires.by_whole_cycles) at c.seek-own.ensures in
    rw (c.with_own.ensures, c.plain_at-lacking.ensures, c.number.ensures, c.fresh_generator-none.ensures)
    (l2_landed g.C.L2Code.cycle a.start _ a.prn.number a.place c.requires.place_in_week _ g.C.L2Code.is_first there)

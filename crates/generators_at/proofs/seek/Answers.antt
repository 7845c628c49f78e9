-- `generators_at::seek` meets its contract: where it stands by division, its register by leaps.
-- Assumes nothing.
use Rattle.std.proofs.Common.{◌∙◌, refl}
use Rattle.generators_at.proofs.Phases.{fits, reaches, leap_asks, brought_is}
use Rattle.generators_at.proofs.seek.Goals as goal

pub standing-at-requires : goal.standing-at-requires
standing-at-requires g c = rw c.course.ensures (fits _ g.C.Coursed.course g.met.C.Coursed.fits c.args.place c.requires.asked.place_in)

pub leap-requires : goal.leap-requires
leap-requires g c =
    let a = c.args in
    let k = g.C.Coursed.course in
    let f = fits _ k g.met.C.Coursed.fits a.place c.requires.asked.place_in in
    leap_asks k _ _ a.place a.count a.start c.standing-at.result (rw c.course.ensures at c.standing-at.ensures)
    f.cycle_some (reaches _ k g.met.C.Coursed.fits) (rw g.met.C.Code.width_is at c.requires.start_in) c.requires.asked.count_in

pub returns : goal.returns
returns g c =
    let a = c.args in
    c.placed.ensures
    ∙ brought_is (record g.C.Code.kind { start = a.start }) g.C.Coursed.course a.place a.count a.start c.standing-at.result c.leap.result
    (rw c.course.ensures at c.standing-at.ensures) refl (rw g.met.C.Code.shift_is c.leap.ensures)

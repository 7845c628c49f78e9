-- `generators_at::standing_of` meets its contract.
-- Assumes nothing.
use Rattle.generators_at.proofs.Phases.{fits}
use Rattle.generators_at.proofs.standing_of.Goals as goal

pub standing-requires : goal.standing-requires
standing-requires g c = rw c.course.ensures (fits _ g.C.Coursed.course g.met.C.Coursed.fits c.args.place c.requires)

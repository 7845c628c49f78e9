-- Reading undoes what `places::place_of` answers.
-- Assumes nothing.
use Rattle.std.proofs.Common.{rules, arith}
use Rattle.std.proofs.lemmas.Grind.{common_steps}
use Rattle.places.specs.Places.{place_of_reply}
use Rattle.places.proofs.ThereAndBack.{back}
use Rattle.places.proofs.place_of.Goals as goal

pub returns-clause-back : goal.returns-clause-back
unfolding place_of_reply
returns-clause-back c = back c.args.signal _ c.args.epoch c.args.chip (grind (arith, common_steps))

-- Place of undoes what `places::reading` answers.
-- Assumes nothing.
use Rattle.std.proofs.Common.{rules, arith}
use Rattle.std.proofs.lemmas.Grind.{common_steps}
use Rattle.places.specs.Places.{reading_reply}
use Rattle.places.proofs.ThereAndBack.{there}
use Rattle.places.proofs.reading.Goals as goal

pub returns-clause-back : goal.returns-clause-back
unfolding reading_reply
returns-clause-back c = there c.args.signal c.args.place _ _ (grind (arith, common_steps))

-- What `places::gap` answers is the only such number, and the other way the opposite.
-- Assumes nothing.
use Rattle.std.proofs.Common.{rules, arith}
use Rattle.std.proofs.lemmas.Grind.{common_steps}
use Rattle.places.specs.Places.{gap_reply}
use Rattle.places.proofs.Gaps.{gap_is, back_again}
use Rattle.places.proofs.gap.Goals as goal

pub returns-clause-only : goal.returns-clause-only
unfolding gap_reply
returns-clause-only c = gap_is c.args.signal c.args.a c.args.b _ (grind (arith, common_steps))

pub returns-clause-back_again : goal.returns-clause-back_again
unfolding gap_reply
returns-clause-back_again c = back_again c.args.signal c.args.a c.args.b _ (grind (arith, common_steps))

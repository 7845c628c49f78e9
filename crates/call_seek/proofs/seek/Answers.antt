-- Whatever seek answers is that reply, and so answers each case as it says.
-- Assumes nothing.
use Rattle.std.proofs.Common.{rules}
use Rattle.call_seek.specs.Seek.{seek_reply}
use Rattle.call_seek.proofs.Seeks.{cases}
use Rattle.call_seek.proofs.seek.Goals as goal

pub returns-in_err-ch-clause-cases : goal.returns-in_err-ch-clause-cases
unfolding seek_reply
returns-in_err-ch-clause-cases c = cases c.args.ch c.args.place _ (search rules)

pub returns-then-week-place-clause-cases : goal.returns-then-week-place-clause-cases
unfolding seek_reply
returns-then-week-place-clause-cases c = cases c.args.ch c.args.place _ (search rules)

pub returns-clause-cases : goal.returns-clause-cases
unfolding seek_reply
returns-clause-cases c = cases c.args.ch c.args.place _ (search rules)

-- Whatever window answers is that reply, and so is by the standards.
-- Assumes nothing.
use Rattle.std.proofs.Common.{rules, arith}
use Rattle.std.proofs.lemmas.Grind.{common_steps}
use Rattle.call_window.specs.Window.{window_reply}
use Rattle.call_window.proofs.Windows.{by_the_standards}
use Rattle.call_window.proofs.window.Goals as goal

pub returns-in_err-ch-clause-by_the_standards : goal.returns-in_err-ch-clause-by_the_standards
unfolding window_reply
returns-in_err-ch-clause-by_the_standards c = by_the_standards c.args.ch c.args.count c.args.buffer.now c.args.at _ (search rules)

pub returns-clause-by_the_standards : goal.returns-clause-by_the_standards
unfolding window_reply
returns-clause-by_the_standards c = by_the_standards c.args.ch c.args.count c.args.buffer.now c.args.at _ (grind (arith, common_steps))

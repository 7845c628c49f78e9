-- Whatever step answers is that reply, and so is by the standards.
-- Assumes nothing.
use Rattle.std.proofs.Common.{rules}
use Rattle.call_step.specs.Step.{step_reply}
use Rattle.call_step.proofs.Steps.{by_the_standards}
use Rattle.call_step.proofs.step.Goals as goal

pub returns-in_err-ch-clause-by_the_standards : goal.returns-in_err-ch-clause-by_the_standards
unfolding step_reply
returns-in_err-ch-clause-by_the_standards c = by_the_standards c.args.ch _ (search rules)

pub returns-clause-by_the_standards : goal.returns-clause-by_the_standards
unfolding step_reply
returns-clause-by_the_standards c = by_the_standards c.args.ch _ (search rules)

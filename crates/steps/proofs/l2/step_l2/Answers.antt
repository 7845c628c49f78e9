-- `steps::l2::step_l2` meets its contract.
-- Assumes nothing.
use mathlib.Core.Path.{◌∙◌}
use Rattle.steps.proofs.PlainSteps.{own_in, l2_is}
use Rattle.steps.proofs.l2.step_l2.Goals as goal

pub step-own-requires : goal.step-own-requires
step-own-requires g c =
    rw (c.own.ensures, g.met.C.L2Code.kind_is) (own_in g.C.L2Code.cycle c.args.start c.args.ch g.C.L2Code.is_first c.requires)

pub returns : goal.returns
returns g c =
    c.plain_step.ensures
    ∙ rw c.with_own-after.ensures (l2_is g.C.L2Code.cycle c.args.start c.args.ch g.C.L2Code.is_first _ c.requires (rw (c.own.ensures, g.met.C.L2Code.kind_is) at c.step-own.ensures))

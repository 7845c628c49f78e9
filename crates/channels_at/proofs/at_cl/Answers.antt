-- `channels_at::at_cl` meets its contract.
-- Assumes nothing.
use Rattle.std.proofs.Common.{◌∙◌}
use Rattle.starts.specs.Starts.{start_cl}
use Rattle.starts.proofs.Ranges.{start_cl_in}
use Rattle.machine.specs.Signals.{week_l2, cl, none}
use Rattle.week.specs.Week.{course_cl, idle}
use Rattle.generators_at.proofs.Plain.{lacking_at, plain_is}
use Rattle.channels_at.proofs.at_cl.Goals as goal

pub own-cl-requires-clause-start_in : goal.own-cl-requires-clause-start_in
own-cl-requires-clause-start_in c = rw c.start_cl.ensures (start_cl_in _)

pub returns : goal.returns
returns c =
    let a = c.args in
    c.plain_channel.ensures
    ∙ plain_is week_l2 none (cl (start_cl a.prn.number)) (idle week_l2) course_cl _ 4 a.prn.number a.place c.requires _ _
    (c.fresh_generator-none.ensures ∙ lacking_at week_l2 a.place c.requires) (rw c.start_cl.ensures at c.own-cl.ensures)

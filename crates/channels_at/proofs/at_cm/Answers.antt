-- `channels_at::at_cm` meets its contract.
-- Assumes nothing.
use Rattle.std.proofs.Common.{◌∙◌}
use Rattle.starts.specs.Starts.{start_cm}
use Rattle.starts.proofs.Ranges.{start_cm_in}
use Rattle.machine.specs.Signals.{week_l2, cm, none}
use Rattle.week.specs.Week.{course_cm, idle}
use Rattle.generators_at.proofs.Plain.{lacking_at, plain_is}
use Rattle.channels_at.proofs.at_cm.Goals as goal

pub own-cm-requires-clause-start_in : goal.own-cm-requires-clause-start_in
own-cm-requires-clause-start_in c = rw c.start_cm.ensures (start_cm_in _)

pub returns : goal.returns
returns c =
    let a = c.args in
    c.plain_channel.ensures
    ∙ plain_is week_l2 (cm (start_cm a.prn.number)) none course_cm (idle week_l2) _ 3 a.prn.number a.place c.requires _ _
    (rw c.start_cm.ensures at c.own-cm.ensures) (c.fresh_generator-none.ensures ∙ lacking_at week_l2 a.place c.requires)

-- `channels_at::at_ca` meets its contract.
-- Assumes nothing.
use Rattle.std.proofs.Common.{◌∙◌}
use lib.Dec.{lit<, lit≤}
use Rattle.registers.specs.Register.{taps_g1, taps_g2}
use Rattle.starts.specs.Starts.{start_g1, start_g2}
use Rattle.machine.specs.Signals.{week_ca, g1, g2}
use Rattle.week.specs.Week.{course_g}
use Rattle.channels_at.proofs.Registers.{read}
use Rattle.generators_at.proofs.Plain.{plain_is}
use Rattle.channels_at.proofs.at_ca.Goals as goal

pub returns : goal.returns
returns c =
    let a = c.args in
    c.plain_channel.ensures
    ∙ plain_is week_ca g1 g2 course_g course_g _ 1 a.prn.number a.place c.requires _ _
    (c.tabled-g1.ensures g1 (read 10 taps_g1 17 start_g1 1023 _ c.sequence.ensures (lit< tt) (lit≤ tt) (lit< tt) (lit< tt)))
    (c.tabled-g2.ensures g2 (read 10 taps_g2 17 start_g2 1023 _ c.sequence-2.ensures (lit< tt) (lit≤ tt) (lit< tt) (lit< tt)))

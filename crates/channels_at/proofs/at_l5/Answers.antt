-- `channels_at::at_l5` meets its contract.
-- Assumes nothing.
use Rattle.std.proofs.Common.{◌∙◌, arith}
use lib.Dec.{lit<, lit≤}
use Rattle.registers.specs.Times.{times}
use Rattle.registers.specs.Register.{shift_xb, taps_xa, taps_xb}
use Rattle.starts.specs.Starts.{start_xa}
use Rattle.machine.specs.Signals.{week_l5, xa, xb}
use Rattle.week.specs.Week.{course_xa, course_xb}
use Rattle.channels_at.proofs.Registers.{read, read_from}
use Rattle.generators_at.proofs.Plain.{plain_is}
use Rattle.channels_at.proofs.at_l5.Goals as goal

pub returns : goal.returns
returns c =
    let a = c.args in
    let start = times shift_xb a.advance 8191 in
    c.plain_channel.ensures
    ∙ plain_is week_l5 xa (xb start) course_xa course_xb _ _ a.prn.number a.place c.requires.place_in_week _ _
    (c.tabled-xa.ensures xa (read 13 taps_xa 129 start_xa 8190 _ c.sequence.ensures (lit< tt) (lit≤ tt) (lit< tt) (lit< tt)))
    (c.tabled-xb.ensures (xb start)
    (read_from 13 taps_xb 257 8191 a.advance 8191 _ c.sequence-2.ensures (lit< tt) (lit≤ tt) (lit< tt) (omega (arith, c.requires.advance_in_cycle))))

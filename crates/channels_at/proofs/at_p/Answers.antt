-- `channels_at::at_p` meets its contract.
-- Assumes nothing.
use lib.Dec.{lit<, lit≤}
use Rattle.registers.specs.Register.{taps_x1a, taps_x1b, taps_x2a, taps_x2b}
use Rattle.starts.specs.Starts.{start_x1a, start_x1b, start_x2a, start_x2b}
use Rattle.machine.specs.Signals.{x1a, x1b, x2a, x2b}
use Rattle.channels_at.proofs.Registers.{read}
use Rattle.channels_at.proofs.Channels.{p_is}
use Rattle.channels_at.proofs.at_p.Goals as goal

pub returns : goal.returns
returns c =
    let a = c.args in
    rw c.number.ensures
    (p_is a.prn.number a.place _ _ _ _ _ c.line_at.ensures
    (c.tabled.ensures x1a (read 12 taps_x1a 65 start_x1a 4092 _ c.sequence.ensures (lit< tt) (lit≤ tt) (lit< tt) (lit< tt)))
    (c.tabled-2.ensures x1b (read 12 taps_x1b 65 start_x1b 4093 _ c.sequence-2.ensures (lit< tt) (lit≤ tt) (lit< tt) (lit< tt)))
    (c.tabled-3.ensures x2a (read 12 taps_x2a 65 start_x2a 4092 _ c.sequence-3.ensures (lit< tt) (lit≤ tt) (lit< tt) (lit< tt)))
    (c.tabled-4.ensures x2b (read 12 taps_x2b 65 start_x2b 4093 _ c.sequence-4.ensures (lit< tt) (lit≤ tt) (lit< tt) (lit< tt))))

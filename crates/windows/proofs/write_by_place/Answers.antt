-- `windows::write_by_place` meets its contract.
-- Assumes nothing.
use Rattle.std.proofs.Common.{length}
use Rattle.signals.specs.Signals.{number_of}
use Rattle.windows.proofs.Round.{round_the_week}
use Rattle.windows.proofs.write_by_place.Goals as goal

pub returns : goal.returns
returns c =
    let a = c.args in (
      round_the_week (number_of a.signal) a.prn.number a.place (length a.out.now) c.at.result (rw c.week.ensures at c.at.ensures),
      c.write_chips.ensures.by_the_machine,
    )

-- `stepped::write_chips` meets its contract.
-- Assumes nothing.
use Rattle.std.proofs.Common.{ap, sym, ◌∙◌, ℕ}
use Rattle.machine.specs.Signals.{signal_of, from_cm}
use Rattle.stepped.proofs.ChipsSoFar.{of_signal}
use Rattle.stepped.proofs.write_chips.Goals as goal

pub write-requires-in-L2Cm-clause-of : goal.write-requires-in-L2Cm-clause-of
write-requires-in-L2Cm-clause-of c =
    let ch = c.args.ch in
    of_signal _ ch c.requires (ap (λ (n : ℕ). signal_of n ch.prn) (sym c.in-L2Cm.ensures) ∙ ap from_cm (sym (c.new.ensures ∙ c.start_cm.ensures)))

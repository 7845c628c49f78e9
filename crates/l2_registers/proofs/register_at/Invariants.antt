-- `l2_registers::register_at` meets its contract.
-- Assumes nothing.
use Rattle.std.proofs.Common.{◌≡◌, ◌*◌, ◌^◌, ◌<◌, ◌≤◌}
use Rattle.registers.specs.Times.{times}
use Rattle.registers.specs.Register.{shift_l2}
use Rattle.l2_registers.proofs.register_at.Given as goal

-- what is left of the phase leads from the register to where the whole leads from the start
abbrev pub invariant-loop-i : goal.invariant-loop-i
invariant-loop-i l =
    (l.register < 2 ^ 27) × (times shift_l2 (l.rest * 8 ^ l.i) l.register ≡ times shift_l2 l.phase l.start) × (l.rest * 8 ^ l.i ≤ l.phase)

-- `numbers::past_zeros` meets its contract.
-- Assumes nothing.
use Prim.Native.Nat.{◌-◌}
use mathlib.Core.Path.{◌≡◌}
use Rattle.numbers.specs.Numbers.{unpadded}
use Rattle.numbers.proofs.past_zeros.Given as goal

abbrev pub invariant-loop : goal.invariant-loop
invariant-loop l = unpadded 19 l.text ≡ unpadded (19 - l.counter) l.rest

-- `numbers::read_digits` meets its contract.
-- Assumes nothing.
use Prim.Native.Nat.{◌≤◌}
use mathlib.Core.Path.{◌≡◌}
use lib.ListN.{drop}
use Rattle.numbers.specs.Numbers.{digits_on}
use Rattle.numbers.proofs.read_digits.Given as goal

abbrev pub invariant-loop-i : goal.invariant-loop-i
invariant-loop-i l = record { few : l.n ≤ l.most; on : digits_on l.most l.mark l.first l.text ≡ digits_on l.most l.mark l.n (drop l.i l.text) }

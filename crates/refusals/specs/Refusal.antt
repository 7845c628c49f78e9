-- The number of each refusal.
-- Assumes nothing.
use Rattle.std.specs.Prelude.{ℕ}
use Rattle.refusals.specs.declared.Refusal.{Refusal}
use Rattle.refusals.specs.declared.Refusal.TheVariants as refusals

abbrev pub number_of : Refusal → ℕ
number_of refusals.Signal = 1
number_of refusals.Prn = 2
number_of refusals.Place = 3
number_of refusals.Channel = 4
number_of refusals.Count = 5
number_of refusals.Room = 6
number_of refusals.Epoch = 7
number_of refusals.Chip = 8
number_of refusals.Line = 9

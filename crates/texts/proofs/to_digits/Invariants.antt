use Rattle.std.proofs.Common.{◌≡◌, ◌++◌, map, take, drop}
use Rattle.texts.specs.Texts.{chip_digit}
use Rattle.texts.proofs.to_digits.Given as goal

abbrev pub invariant-loop-chip : goal.invariant-loop-chip
invariant-loop-chip l = l.chips ≡ map chip_digit (take l.chip-index l.initial.chips) ++ drop l.chip-index l.initial.chips

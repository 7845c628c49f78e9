-- `leaps::rows::combined_by_digits` meets its contract. The loop's invariant: what was added so far and what the digits from here on still add make what the
-- whole row adds.
-- Assumes nothing.
use Rattle.std.proofs.Common.{◌≡◌, ◌/◌, length}
use Rattle.std.specs.Slice.Iter.{chunks_exact_rest, chunks_exact_size}
use Rattle.leaps.specs.Digits.{at_digits}
use Rattle.leaps.proofs.Turns.{StillDigits}
use Rattle.leaps.proofs.rows.combined_by_digits.Given as goal

abbrev pub invariant-loop-digit : goal.invariant-loop-digit
invariant-loop-digit l =
    (chunks_exact_size l.digit-iterator ≡ 16)
    × StillDigits (at_digits (length l.row / 16) l.row l.register) (chunks_exact_rest l.digit-iterator) l.rest l.sum

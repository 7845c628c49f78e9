-- `columns::write_four` meets its contract.
-- Assumes nothing.
use Rattle.std.proofs.Common.{◌≡◌, ℕ, ◌+◌, ◌*◌, ◌%◌, take}
use Rattle.columns.specs.Columns.{Round, sum_chip}
use Rattle.columns.specs.Rows.{row}
use Rattle.columns.proofs.write_four.Given as goal

abbrev pub invariant-loop-block : goal.invariant-loop-block
invariant-loop-block l =
    (l.qa ≡ (l.fn.from.a + l.block * 128) % 4092) × (l.qb ≡ (l.fn.from.b + l.block * 128) % 4093)
    × (l.qc ≡ (l.fn.from.c + l.block * 128) % 4092) × (l.qd ≡ (l.fn.from.d + l.block * 128) % 4093)
    × ((x y z w : ℕ → ℕ) → Round l.a 4092 x → Round l.b 4093 y → Round l.c 4092 z → Round l.d 4093 w
    → take (l.block * 128) l.out ≡ row (sum_chip x y z w l.fn.from) (l.block * 128))

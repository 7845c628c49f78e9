-- `columns::write_two` meets its contract.
-- Assumes nothing.
use Rattle.std.proofs.Common.{◌≡◌, ℕ, ◌+◌, ◌*◌, ◌%◌, ◌<◌, take}
use Rattle.columns.specs.Columns.{Round, sum_two}
use Rattle.columns.specs.Rows.{row}
use Rattle.columns.proofs.write_two.Given as goal

abbrev pub invariant-loop-block : goal.invariant-loop-block
invariant-loop-block l =
    (l.qa ≡ (l.from.a + l.block * 128) % l.from.cycle_a) × (l.qb ≡ (l.from.b + l.block * 128) % l.from.cycle_b)
    × (l.qa < l.from.cycle_a) × (l.qb < l.from.cycle_b)
    × ((x y : ℕ → ℕ) → Round l.a l.from.cycle_a x → Round l.b l.from.cycle_b y → take (l.block * 128) l.out ≡ row (sum_two x y l.from) (l.block * 128))

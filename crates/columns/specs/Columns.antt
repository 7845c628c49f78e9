-- Chips round a cycle, eight of them in a byte, for the contracts of inner functions.
-- Assumes nothing.
use Rattle.std.specs.Prelude.{ℕ, zero, suc, ◌+◌, ◌*◌, ◌/◌, ◌%◌, ◌^◌, ◌<◌, ◌≤◌, ◌≡◌, List, length, [], ◌∷◌, ◌++◌, take, drop, get_or}
use Rattle.std.specs.Simd.Lanes.{zip2}
use Rattle.registers.specs.Register.{stage}
use Rattle.columns.specs.Rows.{row}
use Rattle.columns.specs.declared.Four.{Four}
use Rattle.columns.specs.declared.Two.{Two}

-- the chips that a register gives at stage s, n of them
unfoldable pub chips_of : (ℕ → ℕ) → ℕ → ℕ → ℕ → List ℕ
chips_of f s zero r = []
chips_of f s (suc n) r = stage s r ∷ chips_of f s n (f r)

-- a list, and its first n behind it again
unfoldable pub round : ℕ → List ℕ → List ℕ
round n xs = xs ++ take n xs

-- each number of a list, and m times the one k places behind it
unfoldable pub beside : ℕ → ℕ → List ℕ → List ℕ
beside m k xs = zip2 (λ a b. a + m * b) xs (drop k xs)

-- eight digits in a number, 16 apart, the first as the lowest
unfoldable pub in_columns : List ℕ → List ℕ
in_columns xs = beside 16 64 (beside 4 32 (beside 2 16 xs))

-- chip m of the 128 in sixteen such numbers
abbrev pub chip_in : List ℕ → ℕ → ℕ
chip_in v m = get_or v (m % 16) 0 / 2 ^ (m / 16) % 2

-- the columns of a cycle of chips x 0, x 1 .., round it
pub record Round (t : List ℕ) (cycle : ℕ) (x : ℕ → ℕ) : Type 0 where
  pub room : cycle + 15 ≤ length t
  pub tells : (q k : ℕ) → q < cycle + 15 → k < 8 → get_or t q 0 / 2 ^ k % 2 ≡ x ((q + k * 16) % cycle)

abbrev pub sum_chip : (ℕ → ℕ) → (ℕ → ℕ) → (ℕ → ℕ) → (ℕ → ℕ) → Four → ℕ → ℕ
sum_chip x y z w from j =
    (x ((from.a + j) % 4092) + y ((from.b + j) % 4093) + z ((from.c + j) % 4092) + w ((from.d + j) % 4093)) % 2

-- the next n sums of the chips that four tables tell
abbrev pub Sums : List ℕ → List ℕ → List ℕ → List ℕ → Four → ℕ → List ℕ → Type 0
Sums a b c d from n out = (x y z w : ℕ → ℕ) → Round a 4092 x → Round b 4093 y → Round c 4092 z → Round d 4093 w → out ≡ row (sum_chip x y z w from) n

-- the same of two, in cycles that are told
abbrev pub sum_two : (ℕ → ℕ) → (ℕ → ℕ) → Two → ℕ → ℕ
sum_two x y from j = (x ((from.a + j) % from.cycle_a) + y ((from.b + j) % from.cycle_b)) % 2

abbrev pub SumsTwo : List ℕ → List ℕ → Two → ℕ → List ℕ → Type 0
SumsTwo a b from n out = (x y : ℕ → ℕ) → Round a from.cycle_a x → Round b from.cycle_b y → out ≡ row (sum_two x y from) n

-- What a generator gives from a place on, for the contracts of inner functions.
-- Assumes nothing.
use Rattle.std.specs.Prelude.{ℕ, ◌+◌, ◌%◌, ◌<◌, ◌≤◌, ◌≡◌, Bool, cond, List, length}
use Rattle.week.specs.declared.Course.{Course}
use Rattle.week.specs.Standing.{standing_at}
use Rattle.standard.specs.Registers.{sequence, polynomial_x1a, vector_x1a, polynomial_x1b, vector_x1b, polynomial_x2a, vector_x2a, polynomial_x2b, vector_x2b}
use Rattle.columns.specs.Columns.{Round}
use Rattle.by_place_p.specs.declared.Source.{Source}

-- the numbers of a course fit the columns and one another
pub record Plan (c : Course) : Type 0 where
  pub some : 0 < c.cycle
  pub not_long : c.cycle ≤ 4093
  pub period_some : 0 < c.period
  pub runs_in : c.runs ≤ c.period
  pub stop_in : c.stop ≤ c.week

-- columns of the same chip
abbrev pub Same : Bool → List ℕ → Type 0
Same one t = (cycle : ℕ) → cycle ≤ 4093 → Round t cycle (λ q. cond one 1 0)

-- A source gives, from a place on and as far as it goes, the chips of a generator that goes by a course, x 0, x 1 .. being those of its cycle: columns of some
-- chips z 0, z 1 .., and from the source's phase on they are those at the phases where the generator stands.
pub record Feeds (s : Source) (c : Course) (x : ℕ → ℕ) (place : ℕ) : Type 0 where
  pub some : 0 < s.left
  pub in_week : place + s.left ≤ c.week
  pub in_cycle : s.phase < c.cycle
  pub room : c.cycle + 15 ≤ length s.columns.now
  pub tells : (z : ℕ → ℕ) × Round s.columns.now c.cycle z × ((j : ℕ) → j < s.left → z ((s.phase + j) % c.cycle) ≡ x (standing_at c (place + j)).phase)

-- ---- the chips of a cycle, as the standards' polynomials and vectors give them: IS-GPS-200L 3.3.2.2

abbrev pub chip_x1a : ℕ → ℕ
chip_x1a = sequence 12 polynomial_x1a vector_x1a

abbrev pub chip_x1b : ℕ → ℕ
chip_x1b = sequence 12 polynomial_x1b vector_x1b

abbrev pub chip_x2a : ℕ → ℕ
chip_x2a = sequence 12 polynomial_x2a vector_x2a

abbrev pub chip_x2b : ℕ → ℕ
chip_x2b = sequence 12 polynomial_x2b vector_x2b

-- What a type owes that stands for a kind of generator.
-- Assumes nothing.
use Rattle.std.specs.Prelude.{ℕ, ◌≤◌, ◌≡◌, Bool, true, false, None, Some}
use Rattle.machine.specs.Generators.{Kind, held_at, held_at_end}
use Rattle.machine.specs.declared.Generator.{Generator}
use Rattle.machine.specs.declared.Mode.{Mode}
use Rattle.machine.specs.declared.Mode.TheVariants.{Running}
use Rattle.generators.specs.declared.Cycle.{Cycle}
use Rattle.generators.specs.declared.Hold.{Hold}

-- a generator stands in a cycle
pub record Stands (c : Cycle) (g : Generator) : Type 0 where
  pub phase_in : g.phase ≤ c.last
  pub cycles_in : g.cycles ≤ c.highest

-- the mode on arrival at a phase in a cycle, where the test says whether the week ends
abbrev pub arrival_of : Hold → Bool → ℕ → ℕ → Mode
arrival_of h weekEnd phase cycles =
    elim h.week_end_chips [
      | None ↦ held_at h.phase h.cycles h.chips phase cycles
      | Some m ↦ held_at_end h.phase h.cycles h.chips m weekEnd phase cycles
    ]

pub record NeverHeld (k : Kind) : Type 0 where
  pub holds : k.holds ≡ false
  pub runs : (weekEnd : Bool) (phase cycles : ℕ) → k.arrival weekEnd phase cycles ≡ Running

-- held by a hold and no other
pub record HeldBy (k : Kind) (h : Hold) : Type 0 where
  pub holds : k.holds ≡ true
  pub arrives : (weekEnd : Bool) (phase cycles : ℕ) → k.arrival weekEnd phase cycles ≡ arrival_of h weekEnd phase cycles

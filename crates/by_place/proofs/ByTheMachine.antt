-- The standards' chips from a place on are those that the machine gives there.
-- Assumes nothing.
use mathlib.Core.Bool.{true}
use mathlib.Core.List.{List, map}
use mathlib.Core.Path.{◌≡◌, sym, ◌∙◌}
use Prim.Native.Nat.{ℕ}
use borrow.Author.Tests.{le-leb}
use Rattle.starts.specs.Starts.{Listed}
use Rattle.machine.specs.Signals.{week_of, places_from}
use Rattle.machine.specs.Machine.{opened, advance, chips, is_signal}
use Rattle.machine.proofs.Tests.{both_true}
use Rattle.standard.specs.Standard.{standard}
use Rattle.standard.proofs.EveryChip.{every_window}

pub by_the_machine : (signal prn place n : ℕ) (out : List ℕ) → is_signal signal ≡ true → Listed 37 prn
    → out ≡ map (standard signal prn) (places_from (week_of signal) place n) → out ≡ chips n (advance place (opened signal prn))
by_the_machine signal prn place n out there listed is =
    is ∙ sym (every_window signal prn there (both_true (le-leb 1 prn listed.first) (le-leb prn 37 listed.last)) n place)

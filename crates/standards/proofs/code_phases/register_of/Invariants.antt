-- The register has taken in the chips so far.
use Rattle.std.proofs.Common.{◌≡◌, ◌<◌, take}
use Rattle.standards.specs.CodePhases.{register_from}
use Rattle.standards.proofs.code_phases.register_of.Given as goal

abbrev pub invariant-loop-chip : goal.invariant-loop-chip
invariant-loop-chip l = (l.register < 1024) × (l.register ≡ register_from (take l.chip-index l.chip-items))

-- How far the walk has come: from the place that is looked at next, G2 becomes the delayed one by as many chips fewer.
use Rattle.std.proofs.Common.{◌≡◌}
use Rattle.starts.specs.Starts.{start_g2}
use Rattle.standards.specs.CodePhases.{delayed_g2}
use Rattle.standards.proofs.Delays.{shifts_to, walk}
use Rattle.standards.proofs.code_phases.wait.Given as goal

abbrev pub invariant-loop-place : goal.invariant-loop-place
invariant-loop-place l = shifts_to 1023 l.wanted start_g2 ≡ walk l.wanted l.place

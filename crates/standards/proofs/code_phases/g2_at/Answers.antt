use Rattle.std.proofs.Common.{rules}
use Rattle.refusals.specs.Refusal.{number_of}
use Rattle.standards.proofs.Delays.{g2_reached, g2_refused}
use Rattle.standards.proofs.code_phases.g2_at.Goals as goal

pub returns-in_err-there : goal.returns-in_err-there
returns-in_err-there c = let refused = g2_refused c.args.prn c.args.place c.requires (number_of c.in_err-there.field-0.0) c.in_err-there.ensures in search rules

pub returns : goal.returns
returns c = g2_reached c.args.prn c.args.place c.requires _ _ c.in_ok-there.ensures

use Rattle.std.proofs.Common.{ℕ}
use Rattle.std.specs.Io.KnownBytes.{Keeps}
use Rattle.line_programs.specs.Talks.{AtLeast}
use Rattle.line_programs.proofs.fetch_again.Given as goal

abbrev pub invariant-loop : goal.invariant-loop
invariant-loop g l = record {
  keeps : Keeps (g.R.Read.remaining l.fn.input) (g.R.Read.remaining l.input);
  tried : AtLeast l.counter (g.R.Source.interrupted l.input);
}

use Rattle.std.proofs.Common.{ℕ}
use Rattle.std.specs.Io.KnownBytes.{Keeps}
use Rattle.line_programs.specs.Talks.{AtLeast}
use Rattle.line_programs.proofs.put_again.Given as goal

abbrev pub invariant-loop : goal.invariant-loop
invariant-loop g l = record {
  keeps : Keeps (g.W.Write.contents l.fn.output) (g.W.Write.contents l.output);
  tried : AtLeast l.counter (g.W.Sink.interrupted l.output);
}

use Rattle.std.proofs.Common.{rules}
use Rattle.std.proofs.KnownBytes.{Keeps-trans}
use Rattle.line_programs.proofs.Tries.{tried_more}
use Rattle.line_programs.proofs.fetch_again.Goals as goal

pub loop-preserved : goal.loop-preserved
loop-preserved g c = record {
  keeps = Keeps-trans _ _ _ c.loop.invariant.keeps c.in-Err.ensures.bytes;
  tried = tried_more _ _ _ c.loop.invariant.tried (c.in-Err.ensures.again (search rules));
}

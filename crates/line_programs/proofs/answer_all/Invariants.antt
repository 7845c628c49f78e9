use Rattle.std.proofs.Common.{◌≡◌}
use Rattle.line_programs.proofs.Chunks.{Been}
use Rattle.line_programs.proofs.answer_all.Given as goal

abbrev pub invariant-loop : goal.invariant-loop
invariant-loop g l =
    let state = g.A.Talk.state in record {
      answerer : l.dialog.answerer ≡ l.fn.dialog.answerer;
      been : Been (g.A.Talk.course l.fn.dialog.answerer) (state l.fn.dialog.line.items l.fn.dialog.memory) (state l.dialog.line.items l.dialog.memory) (g.R.Read.remaining l.fn.input) (g.R.Read.remaining l.input) (g.W.Write.contents l.fn.output) (g.W.Write.contents l.output) l.counter;
    }

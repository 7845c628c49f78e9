use Rattle.std.proofs.Common.{◌≡◌, ◌++◌, List, ℕ, length}
use Rattle.line_programs.specs.Talks.{Answered}
use Rattle.line_programs.proofs.answer.Given as goal

abbrev pub invariant-loop-rest : goal.invariant-loop-rest
invariant-loop-rest g l =
    let state = g.A.Talk.state in record {
      answerer : l.dialog.answerer ≡ l.fn.dialog.answerer;
      said : (done : List ℕ)
          × (l.chunk ≡ done ++ l.rest)
          × Answered (g.A.Talk.course l.fn.dialog.answerer) (state l.fn.dialog.line.items l.fn.dialog.memory) (state l.dialog.line.items l.dialog.memory) done (g.W.Write.contents l.fn.output) (g.W.Write.contents l.output);
    }

abbrev pub decreases-loop-rest : goal.decreases-loop-rest
decreases-loop-rest g l = length l.rest

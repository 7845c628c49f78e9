use Rattle.std.proofs.Common.{◌≡◌, ◌++◌, take}
use Rattle.line_programs.specs.Dialogs.{stands, says}
use Rattle.line_programs.proofs.Dialog.feed.Given as goal

abbrev pub invariant-loop-i : goal.invariant-loop-i
invariant-loop-i g l =
    let course = g.A.Talk.course l.fn.self.answerer in
    let start = g.A.Talk.state l.fn.self.line.items l.fn.self.memory in record {
      answerer : l.self.answerer ≡ l.fn.self.answerer;
      state : g.A.Talk.state l.self.line.items l.self.memory ≡ stands course start (take l.i l.input);
      said : l.out.items ≡ l.fn.out.items ++ says course start (take l.i l.input);
    }

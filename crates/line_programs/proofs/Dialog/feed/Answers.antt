use Rattle.std.proofs.Common.{rules, ◌++◌, ◌∙◌, refl, sym, ap, append-nil}
use lib.ListN.{get_or}
use Rattle.line_programs.proofs.Dialogs.{fed_state, fed_said}
use Rattle.line_programs.proofs.Dialog.feed.Goals as goal

pub loop-i-init : goal.loop-i-init
loop-i-init g c =
    let self = c.args.self.now in
    record {
      answerer = refl;
      state = sym ((g.met.A.Talk.laws self.answerer).short self.line.items self.memory (search rules));
      said = sym (append-nil c.args.out.now.items);
    }

pub loop-i-preserved : goal.loop-i-preserved
loop-i-preserved g c =
    let self = c.args.self.now in
    let input = c.args.input.now in
    let at = c.loop-i in
    let b = get_or input at.i 0 in
    let course = g.A.Talk.course in
    let start = g.A.Talk.state self.line.items self.memory in
    let here = g.A.Talk.state at.self.line.items at.self.memory in
    let after = g.A.Talk.state c.turn.new.self.line.items c.turn.new.self.memory in
    let keeps = (g.met.A.Talk.laws self.answerer).keeps in
    let same = at.invariant.answerer in
    record {
      answerer = c.turn.ensures.answerer ∙ same;
      state =
          fed_state (course self.answerer) keeps start here input at.i (search rules) at.invariant.state after
          (c.turn.ensures.state ∙ ap (λ a. (course a).kept ((course a).next here b)) same);
      said =
          fed_said (course self.answerer) keeps start here input at.i (search rules) at.invariant.state c.args.out.now.items at.out.items c.turn.new.out.items at.invariant.said
          (c.turn.ensures.said ∙ ap (λ a. at.out.items ++ (course a).said here b) same);
    }

use Rattle.std.proofs.Common.{◌≡◌, ◌++◌, ◌∙◌, [], List, ℕ, ap, sym, subst, refl, take, drop, take-append-drop, append_assoc, append-nil, drop_of_length-le, rules}
use Rattle.std.proofs.lemmas.List.{take_rest}
use Rattle.std.specs.Io.KnownBytes.{Appends}
use Rattle.line_programs.specs.Dialogs.{says}
use Rattle.line_programs.specs.Talks.{Answered, Begins}
use Rattle.line_programs.proofs.Dialogs.{answered_none, answered_by, answered_more, begun_more, begins_of}
use Rattle.line_programs.proofs.answer.Goals as goal

pub loop-rest-init : goal.loop-rest-init
loop-rest-init g c =
    let self = c.args.dialog.now in
    record {
      answerer = refl;
      said = ([], refl, answered_none (g.A.Talk.course self.answerer) (g.met.A.Talk.laws self.answerer).keeps _ _);
    }

pub loop-rest-preserved : goal.loop-rest-preserved
loop-rest-preserved g c =
    let here = c.loop-rest.dialog in
    let after = c.feed-used.new.self in
    let rest = c.loop-rest.rest.now in
    let fed = c.feed-used.ensures in
    let used = c.feed-used.result in
    let course = g.A.Talk.course in
    let contents = g.W.Write.contents in
    let stood = g.A.Talk.state here.line.items here.memory in
    let stands = g.A.Talk.state after.line.items after.memory in
    let same = c.loop-rest.invariant.answerer in
    let (done, split, answered) = c.loop-rest.invariant.said in
    let grew : Appends (contents c.loop-rest.output) (contents c.put_all.new.output) c.feed-used.new.out.items = search rules in
    record {
      answerer = fed.answerer ∙ same;
      said = (
        done ++ take used rest,
        split
            ∙ ap (λ l. done ++ l) (sym (take-append-drop used rest) ∙ ap (λ l. take used rest ++ l) (sym (take_rest rest used)))
            ∙ sym (append_assoc done (take used rest) _),
        answered_more (course c.args.dialog.now.answerer) (g.met.A.Talk.laws c.args.dialog.now.answerer).keeps _ stood stands done (take used rest) _ (contents c.loop-rest.output) _ answered
            (subst (λ a. Answered (course a) stood stands (take used rest) (contents c.loop-rest.output) (contents c.put_all.new.output)) same
            (answered_by (course here.answerer) (g.met.A.Talk.laws here.answerer).keeps stood stands (take used rest) _ c.feed-used.new.out.items _ _ c.clear.ensures fed.said fed.state grew)),
      );
    }

pub returns-in_err-put_all-clause-begun : goal.returns-in_err-put_all-clause-begun
returns-in_err-put_all-clause-begun g c =
    let here = c.loop-rest.dialog in
    let rest = c.loop-rest.rest.now in
    let used = c.feed-used.result in
    let course = g.A.Talk.course in
    let contents = g.W.Write.contents in
    let stood = g.A.Talk.state here.line.items here.memory in
    let start = g.A.Talk.state c.args.dialog.now.line.items c.args.dialog.now.memory in
    let same = c.loop-rest.invariant.answerer in
    let (done, split, answered) = c.loop-rest.invariant.said in
    let begun : Begins (contents c.loop-rest.output) (contents c.put_all.new.output) c.feed-used.new.out.items = search rules in
    let text : c.feed-used.new.out.items ≡ says (course c.args.dialog.now.answerer) stood (take used rest) =
    c.feed-used.ensures.said
    ∙ ap (λ (l : List ℕ). l ++ says (course here.answerer) stood (take used rest)) c.clear.ensures
    ∙ ap (λ a. says (course a) stood (take used rest)) same in
    subst (λ (l : List ℕ). Begins (contents c.args.output.now) (contents c.put_all.new.output) (says (course c.args.dialog.now.answerer) start l))
    (ap (λ (l : List ℕ). done ++ l) (take-append-drop used rest) ∙ sym split)
    (begun_more (course c.args.dialog.now.answerer) (g.met.A.Talk.laws c.args.dialog.now.answerer).keeps start stood done (take used rest) (drop used rest) _ (contents c.loop-rest.output) _ answered
    (subst (Begins (contents c.loop-rest.output) (contents c.put_all.new.output)) text begun))

pub returns-clause-said : goal.returns-clause-said
returns-clause-said g c =
    let here = c.loop-rest.dialog in
    let self = c.args.dialog.now in
    let (done, split, answered) = c.loop-rest.invariant.said in
    let empty : c.loop-rest.rest.now ≡ [] = drop_of_length-le c.loop-rest.rest.now {i = 0} (search rules) in
    subst (λ (l : List ℕ). Answered (g.A.Talk.course self.answerer) (g.A.Talk.state self.line.items self.memory) (g.A.Talk.state here.line.items here.memory) l (g.W.Write.contents c.args.output.now) (g.W.Write.contents c.loop-rest.output))
    (sym (split ∙ ap (λ (l : List ℕ). done ++ l) empty ∙ append-nil done)) answered

pub returns-clause-begun : goal.returns-clause-begun
returns-clause-begun g c =
    let self = c.args.dialog.now in
    let (done, split, answered) = c.loop-rest.invariant.said in
    let empty : c.loop-rest.rest.now ≡ [] = drop_of_length-le c.loop-rest.rest.now {i = 0} (search rules) in
    let text = says (g.A.Talk.course self.answerer) (g.A.Talk.state self.line.items self.memory) in
    begins_of _ _ (text done) [] _ answered.0 (ap text (split ∙ ap (λ (l : List ℕ). done ++ l) empty ∙ append-nil done) ∙ sym (append-nil (text done)))

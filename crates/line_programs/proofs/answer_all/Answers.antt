use Rattle.std.proofs.Common.{rules, arith, ◌<◌, ◌∙◌, [], length, take, subst, refl}
use Rattle.std.specs.Io.KnownBytes.{Consumes, IsAtEnd}
use Rattle.line_programs.specs.Dialogs.{says, saying}
use Rattle.line_programs.specs.Talks.{Answered, Begins, BeginsRead}
use Rattle.line_programs.proofs.Chunks.{been_none, been_more, been_begun, been_written, been_last, begun_read}
use Rattle.line_programs.proofs.answer_all.Given.{Over}
use Rattle.line_programs.proofs.answer_all.Goals as goal

pub loop-init : goal.loop-init
loop-init g c =
    let self = c.args.dialog.now in
    record {
      answerer = refl;
      been = been_none (g.A.Talk.course self.answerer) (g.met.A.Talk.laws self.answerer).keeps _ _ _;
    }

pub returns-in_err-got-clause-begun : goal.returns-in_err-got-clause-begun
returns-in_err-got-clause-begun g c =
    let self = c.args.dialog.now in
    been_begun (g.A.Talk.course self.answerer) (g.met.A.Talk.laws self.answerer).keeps _ _ _ _ _ _ _ c.loop.invariant.been

-- what was written where the input has ended
at_end : (g : Over) (c : goal.After-map_err-then-got-eq0 g)
    → BeginsRead (g.R.Read.remaining c.args.input.now) (g.R.Read.remaining c.fetch_again.new.input) (g.W.Write.contents c.args.output.now) (g.W.Write.contents c.finish.new.output)
    (says (g.A.Talk.course c.args.dialog.now.answerer) (g.A.Talk.state c.args.dialog.now.line.items c.args.dialog.now.memory))
    (saying (g.A.Talk.course c.args.dialog.now.answerer) (g.A.Talk.state c.args.dialog.now.line.items c.args.dialog.now.memory))
at_end g c =
    let self = c.args.dialog.now in
    let course = g.A.Talk.course in
    let here = g.A.Talk.state c.loop.dialog.line.items c.loop.dialog.memory in
    let left = g.R.Read.remaining c.loop.input in
    let after = g.R.Read.remaining c.fetch_again.new.input in
    let now = g.W.Write.contents c.loop.output in
    let new = g.W.Write.contents c.finish.new.output in
    let read : Consumes left after (take c.in_ok-got.got c.fetch_again.new.buffer) = search rules in
    let end : IsAtEnd after = search rules in
    been_last (course self.answerer) (g.met.A.Talk.laws self.answerer).keeps _ here _ left after _ now new _ c.loop.invariant.been
    (subst (λ n. Consumes left after (take n c.fetch_again.new.buffer)) c.if-got-eq0.true read) end
    (subst (λ a. Begins now new (saying (course a) here [])) c.loop.invariant.answerer c.finish.ensures.begun)

pub returns-then-got-eq0-clause-begun : goal.returns-then-got-eq0-clause-begun
returns-then-got-eq0-clause-begun g c =
    begun_read (g.A.Talk.course c.args.dialog.now.answerer) (g.met.A.Talk.laws c.args.dialog.now.answerer).keeps _ _ _ _ _ (at_end g c)

pub returns-then-got-eq0-clause-written : goal.returns-then-got-eq0-clause-written
returns-then-got-eq0-clause-written g c = let written = at_end g c in search rules

-- what was written where the answers to a chunk could not be
at_chunk : (g : Over) (c : goal.After-from_residual-in_err-map_err g)
    → BeginsRead (g.R.Read.remaining c.args.input.now) (g.R.Read.remaining c.fetch_again.new.input) (g.W.Write.contents c.args.output.now) (g.W.Write.contents c.answer.new.output)
    (says (g.A.Talk.course c.args.dialog.now.answerer) (g.A.Talk.state c.args.dialog.now.line.items c.args.dialog.now.memory))
    (saying (g.A.Talk.course c.args.dialog.now.answerer) (g.A.Talk.state c.args.dialog.now.line.items c.args.dialog.now.memory))
at_chunk g c =
    let self = c.args.dialog.now in
    let course = g.A.Talk.course in
    let here = g.A.Talk.state c.loop.dialog.line.items c.loop.dialog.memory in
    let chunk = take c.in_ok-got.got c.fetch_again.new.buffer in
    let left = g.R.Read.remaining c.loop.input in
    let after = g.R.Read.remaining c.fetch_again.new.input in
    let now = g.W.Write.contents c.loop.output in
    let new = g.W.Write.contents c.answer.new.output in
    let read : Consumes left after chunk = search rules in
    let begun : Begins now new (says (course c.loop.dialog.answerer) here chunk) = search rules in
    been_written (course self.answerer) (g.met.A.Talk.laws self.answerer).keeps _ here _ left after _ now new _ chunk c.loop.invariant.been read
    (subst (λ a. Begins now new (says (course a) here chunk)) c.loop.invariant.answerer begun)

pub returns-in_err-map_err-clause-begun : goal.returns-in_err-map_err-clause-begun
returns-in_err-map_err-clause-begun g c =
    begun_read (g.A.Talk.course c.args.dialog.now.answerer) (g.met.A.Talk.laws c.args.dialog.now.answerer).keeps _ _ _ _ _ (at_chunk g c)

pub returns-in_err-map_err-clause-written : goal.returns-in_err-map_err-clause-written
returns-in_err-map_err-clause-written g c = let written = at_chunk g c in search rules

pub loop-preserved : goal.loop-preserved
loop-preserved g c =
    let self = c.args.dialog.now in
    let course = g.A.Talk.course in
    let here = g.A.Talk.state c.loop.dialog.line.items c.loop.dialog.memory in
    let there = g.A.Talk.state c.answer.new.dialog.line.items c.answer.new.dialog.memory in
    let chunk = take c.in_ok-got.got c.fetch_again.new.buffer in
    let left = g.R.Read.remaining c.loop.input in
    let after = g.R.Read.remaining c.fetch_again.new.input in
    let read : Consumes left after chunk = search rules in
    let some : 0 < length chunk = search (rules, arith) in
    let now = g.W.Write.contents c.loop.output in
    let new = g.W.Write.contents c.answer.new.output in
    let said : Answered (course c.loop.dialog.answerer) here there chunk now new = search rules in
    record {
      answerer = c.answer.ensures.answerer ∙ c.loop.invariant.answerer;
      been =
          been_more (course self.answerer) (g.met.A.Talk.laws self.answerer).keeps _ here there _ left after _ now new _ chunk c.loop.invariant.been read some
          (subst (λ a. Answered (course a) here there chunk now new) c.loop.invariant.answerer said);
    }

pub returns-clause-begun : goal.returns-clause-begun
returns-clause-begun g c =
    let self = c.args.dialog.now in
    been_begun (g.A.Talk.course self.answerer) (g.met.A.Talk.laws self.answerer).keeps _ _ _ _ _ _ _ c.loop.invariant.been

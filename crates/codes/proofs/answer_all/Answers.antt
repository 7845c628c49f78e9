use Rattle.std.proofs.Common.{List, ℕ, ◌≡◌, ◌∙◌, ap, subst, IfErr, IfSome, OnOk}
use Rattle.std.proofs.Math.Path.{fun_ext}
use Rattle.line_programs.specs.Talks.{AnswersRead, BeginsRead, OnInput, OnOutput}
use Rattle.gps_chips.specs.Chips.{by_the_machine}
use Rattle.std.specs.Io.KnownBytes.{Appends}
use Rattle.streams.specs.Stream.{replies, saying, answers_so_far}
use Rattle.streams.proofs.EveryInput.{every_read, every_input, answers_by_the_standards}
use Rattle.codes.proofs.answer_all.Goals as goal

pub returns-clause-standards : goal.returns-clause-standards
returns-clause-standards g c =
    subst (λ (said : List ℕ → List ℕ). OnOk c.answer_all.result (IfSome (g.R.Read.remaining c.args.input.now) (λ bytes. Appends (g.W.Write.contents c.args.output.now) (g.W.Write.contents c.answer_all.new.output) (said bytes))))
    (fun_ext (λ (input : List ℕ). ap (λ (l : List ℕ). saying l input) c.new-stream.ensures.line ∙ every_input input ∙ answers_by_the_standards input)) c.answer_all.ensures.ok

pub returns-clause-read : goal.returns-clause-read
returns-clause-read g c =
    subst (λ (so_far : List ℕ → List ℕ). IfErr c.answer_all.result (λ e. OnInput e (AnswersRead (g.R.Read.remaining c.args.input.now) (g.R.Read.remaining c.answer_all.new.input) (g.W.Write.contents c.args.output.now) (g.W.Write.contents c.answer_all.new.output) so_far)))
    (fun_ext (λ (read : List ℕ). ap (λ (l : List ℕ). replies l read) c.new-stream.ensures.line ∙ every_read read)) c.answer_all.ensures.read

pub returns-clause-written : goal.returns-clause-written
returns-clause-written g c =
    let Said : (List ℕ → List ℕ) → (List ℕ → List ℕ) → Type 0
    = λ so_far whole. IfErr c.answer_all.result (λ e. OnOutput e (BeginsRead (g.R.Read.remaining c.args.input.now) (g.R.Read.remaining c.answer_all.new.input) (g.W.Write.contents c.args.output.now) (g.W.Write.contents c.answer_all.new.output) so_far whole)) in
    subst (Said (answers_so_far by_the_machine)) (fun_ext (λ (input : List ℕ). ap (λ (l : List ℕ). saying l input) c.new-stream.ensures.line ∙ every_input input))
    (subst (λ (so_far : List ℕ → List ℕ). Said so_far (saying c.new-stream.result.line.items)) (fun_ext (λ (read : List ℕ). ap (λ (l : List ℕ). replies l read) c.new-stream.ensures.line ∙ every_read read)) c.answer_all.ensures.written)

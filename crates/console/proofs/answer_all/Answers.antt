use Rattle.std.proofs.Common.{List, ℕ, ◌≡◌, ◌∙◌, ap, subst, IfErr, ap₂}
use Rattle.std.proofs.Math.Path.{fun_ext}
use Rattle.line_programs.specs.Talks.{AnswersRead, BeginsRead, OnInput, OnOutput}
use Rattle.sessions.specs.Sessions.{Talk, replies, saying, talk, begun, output, output_so_far}
use Rattle.sessions.specs.declared.Console.{Console}
use Rattle.sessions.specs.declared.Remembered.{Remembered}
use Rattle.sessions.proofs.EverySession.{every_read, every_input}
use Rattle.console.proofs.answer_all.Goals as goal

pub returns-clause-read : goal.returns-clause-read
returns-clause-read g c =
    let session = c.new-session.result in
    let help = session.answerer.help.now in
    let same : help ≡ c.args.help.now = ap (λ (console : Console). console.help.now) c.new-session.ensures.answerer in
    let fresh : talk session.line.items session.memory.last ≡ begun = ap₂ talk c.new-session.ensures.line (ap (λ (m : Remembered). m.last) c.new-session.ensures.memory ∙ c.from.ensures) in
    subst (λ (so_far : List ℕ → List ℕ). IfErr c.answer_all.result (λ e. OnInput e (AnswersRead (g.R.Read.remaining c.args.input.now) (g.R.Read.remaining c.answer_all.new.input) (g.W.Write.contents c.args.output.now) (g.W.Write.contents c.answer_all.new.output) so_far)))
    (fun_ext (λ (read : List ℕ). ap (λ (t : Talk). replies help t read) fresh ∙ every_read help read ∙ ap (λ (h : List ℕ). output_so_far h read) same)) c.answer_all.ensures.read

pub returns-clause-written : goal.returns-clause-written
returns-clause-written g c =
    let session = c.new-session.result in
    let help = session.answerer.help.now in
    let same : help ≡ c.args.help.now = ap (λ (console : Console). console.help.now) c.new-session.ensures.answerer in
    let fresh : talk session.line.items session.memory.last ≡ begun = ap₂ talk c.new-session.ensures.line (ap (λ (m : Remembered). m.last) c.new-session.ensures.memory ∙ c.from.ensures) in
    let Said : (List ℕ → List ℕ) → (List ℕ → List ℕ) → Type 0
    = λ so_far whole. IfErr c.answer_all.result (λ e. OnOutput e (BeginsRead (g.R.Read.remaining c.args.input.now) (g.R.Read.remaining c.answer_all.new.input) (g.W.Write.contents c.args.output.now) (g.W.Write.contents c.answer_all.new.output) so_far whole)) in
    subst (Said (output_so_far c.args.help.now)) (fun_ext (λ (input : List ℕ). ap (λ (t : Talk). saying help t input) fresh ∙ every_input help input ∙ ap (λ (h : List ℕ). output h input) same))
    (subst (λ (so_far : List ℕ → List ℕ). Said so_far (saying help (talk session.line.items session.memory.last))) (fun_ext (λ (read : List ℕ). ap (λ (t : Talk). replies help t read) fresh ∙ every_read help read ∙ ap (λ (h : List ℕ). output_so_far h read) same)) c.answer_all.ensures.written)

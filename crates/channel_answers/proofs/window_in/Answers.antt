use Rattle.std.proofs.Common.{◌++◌, List, ℕ, ap, sym, ◌∙◌}
use Rattle.channel_answers.proofs.Windows.{window_text, window_dot}
use Rattle.channel_answers.proofs.window_in.Goals as goal

pub returns-clause-text : goal.returns-clause-text
returns-clause-text g c =
    let a = c.args in
    c.window_on.ensures.text ∙ ap (λ (l : List ℕ). a.out.now.items ++ l) (window_text a.ch a.count a.at a.bytes a.lent.now (sym c.too_long.ensures ∙ c.if-too_long.false) c.requires.lent)

pub returns-clause-dot : goal.returns-clause-dot
returns-clause-dot g c =
    let a = c.args in
    c.window_on.ensures.dot ∙ window_dot a.ch a.count a.at a.bytes a.lent.now (sym c.too_long.ensures ∙ c.if-too_long.false) c.requires.lent a.last.now

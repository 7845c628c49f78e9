use Rattle.std.proofs.Common.{◌++◌, ◌∙◌, List, ℕ, ap, sym}
use Rattle.place_answers.proofs.Buffers.{chips_text}
use Rattle.place_answers.proofs.chips_in.Goals as goal

pub returns : goal.returns
returns g c =
    let a = c.args in
    c.chips_on.ensures ∙ ap (λ (l : List ℕ). a.out.now.items ++ l) (chips_text a.signal a.prn a.place a.bytes a.lent.now (sym c.too_long.ensures ∙ c.if-too_long.false) c.requires.lent)

use Rattle.std.proofs.Common.{rules, arith, ap, ◌∙◌, ℕ, slice_set}
use Rattle.std.proofs.lemmas.List.Edits.{map_over_more}
use Rattle.texts.specs.Texts.{chip_digit}
use Rattle.texts.proofs.to_digits.Goals as goal

pub loop-chip-preserved : goal.loop-chip-preserved
loop-chip-preserved c =
    let l = c.loop-chip in
    ap (λ (digit : ℕ). slice_set l.chips l.chip-index digit) c.chip_digit.ensures
    ∙ map_over_more chip_digit c.args.chips.now l.chips l.chip-index _ (omega arith) l.invariant (search rules)

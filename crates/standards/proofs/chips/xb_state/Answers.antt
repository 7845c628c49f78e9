use Rattle.std.proofs.Common.{ap, ◌∙◌, ◌-◌, ◌%◌, reverse, rules}
use Rattle.standards.proofs.Calls.{mapped}
use Rattle.standards.proofs.chips.xb_state.Goals as goal

pub returns-clause-complements : goal.returns-clause-complements
returns-clause-complements c =
    c.reverse.ensures.after ∙ ap reverse (mapped _ (λ chip. 1 - chip % 2) _ _ _ _ (λ p x y q called. search rules) (search rules) c.map-bits.ensures.items)

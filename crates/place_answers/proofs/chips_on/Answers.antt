use Rattle.std.proofs.Common.{◌++◌, ◌∙◌, List, ℕ, ap, sym, arith, rules}
use Rattle.place_answers.proofs.Buffers.{chips_short, chips_filled}
use Rattle.place_answers.proofs.chips_on.Goals as goal

pub answer_chips-requires : goal.answer_chips-requires
answer_chips-requires g c =
    let a = c.args in
    (search rules, omega (arith, chips_short a.signal a.prn a.place _ (sym c.in-Ok.ensures.answer)))

pub returns-in-Ok : goal.returns-in-Ok
returns-in-Ok g c =
    let a = c.args in
    let told = c.in-Ok.ensures in
    c.answer_chips.ensures ∙ ap (λ (l : List ℕ). a.out.now.items ++ l) (chips_filled a.signal a.prn a.place a.buffer.now c.gps_chips.new.buffer (sym told.answer) told.chips_by_the_machine)

-- `leaps::rows::combined_by_digits` meets its contract.
-- Assumes nothing.
use Rattle.std.proofs.Common.{◌∙◌}
use Rattle.leaps.proofs.Turns.{digits_turn, digits_last}
use Rattle.leaps.proofs.rows.combined_by_digits.Goals as goal

pub loop-digit-preserved : goal.loop-digit-preserved
loop-digit-preserved c =
    let l = c.loop-digit in
    let next = c.in-Some.ensures.steps in
    let part = next.1 in
    let long = part.1 ∙ l.invariant.0 in
    (next.0 ∙ l.invariant.0, rw c.from-sum.ensures (digits_turn _ part.0 long l.invariant.1))

pub returns : goal.returns
returns c =
    let l = c.loop-digit in
    let ended = c.in-None.ensures.steps.1.0 in
    digits_last (rw l.invariant.0 at ended) l.invariant.1

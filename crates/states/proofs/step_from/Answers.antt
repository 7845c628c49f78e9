use Rattle.std.proofs.Common.{rules, sym, ◌∙◌}
use Rattle.call_open.specs.Open.{open_reply}
use Rattle.states.proofs.Reaches.{step_told}
use Rattle.states.proofs.step_from.Goals as goal

pub returns-in_err-open : goal.returns-in_err-open
unfolding open_reply
returns-in_err-open c = search rules

pub returns-then-same : goal.returns-then-same
returns-then-same c =
    step_told c.args.place _ c.in_ok-stepped.stepped.chip c.in_ok-sought.sought.channel c.in_ok-stepped.stepped.channel c.in_ok-open.field-0 _ c.in_ok-sought.ensures (search rules) (search rules)
    (sym c.if-same.true ∙ c.same.ensures)

pub returns-else-same : goal.returns-else-same
returns-else-same c =
    step_told c.args.place _ c.in_ok-stepped.stepped.chip c.in_ok-sought.sought.channel c.in_ok-stepped.stepped.channel c.in_ok-open.field-0 _ c.in_ok-sought.ensures (search rules) (search rules)
    (sym c.if-same.false ∙ c.same.ensures)

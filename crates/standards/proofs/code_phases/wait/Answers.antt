use Rattle.std.proofs.Common.{rules, ◌∙◌}
use Rattle.standards.proofs.Delays.{walk_begins, walk_goes, found, never}
use Rattle.standards.proofs.code_phases.wait.Goals as goal

pub loop-place-init : goal.loop-place-init
loop-place-init c = walk_begins c.in_ok-wanted.wanted

pub returns-then-branch-wanted : goal.returns-then-branch-wanted
returns-then-branch-wanted c =
    found c.args.prn c.in_ok-wanted.wanted c.loop-place.place c.in_ok-wanted.ensures.0 c.in_ok-wanted.ensures.1 c.loop-place.invariant (search rules)
    c.in_ok-g2_at.field-0 c.in_ok-g2_at.ensures.1 c.if-branch-wanted.true

pub loop-place-preserved : goal.loop-place-preserved
loop-place-preserved c =
    c.loop-place.invariant
    ∙ walk_goes c.in_ok-wanted.wanted c.loop-place.place (search rules) (λ same. c.if-branch-wanted.false (c.in_ok-g2_at.ensures.1 ∙ same))

pub returns : goal.returns
returns c =
    absurd (never c.args.prn c.in_ok-wanted.wanted c.loop-place.place c.in_ok-wanted.ensures.0 c.in_ok-wanted.ensures.1 c.loop-place.invariant (search rules))

use Rattle.std.proofs.Common.{rules, ◌+◌, add-one}
use Rattle.fields.proofs.Bytes.{split_at, split_nowhere, past_is}
use Rattle.fields.proofs.split.Goals as goal

pub returns-in-Some-clause-before : goal.returns-in-Some-clause-before
returns-in-Some-clause-before c = (split_at c.args.s.now c.in-Some.at (search rules) (search rules) (λ k h. search rules)).0

pub returns-in-Some-clause-after : goal.returns-in-Some-clause-after
returns-in-Some-clause-after c =
    past_is c.args.s.now (c.in-Some.at + 1) (rw (add-one c.in-Some.at) (split_at c.args.s.now c.in-Some.at (search rules) (search rules) (λ k h. search rules)).1)

pub returns-in-None-clause-before : goal.returns-in-None-clause-before
returns-in-None-clause-before c = (split_nowhere c.args.s.now (λ k h. search rules)).0

pub returns-in-None-clause-after : goal.returns-in-None-clause-after
returns-in-None-clause-after c = (split_nowhere c.args.s.now (λ k h. search rules)).1

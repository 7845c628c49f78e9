use Rattle.std.proofs.Common.{rules}
use Rattle.fields.proofs.Bytes.{shorn_at}
use Rattle.fields.proofs.without_zeros.Goals as goal

pub returns-in-Some-clause-value : goal.returns-in-Some-clause-value
returns-in-Some-clause-value c = shorn_at c.args.s.now c.in-Some.zeros (search rules) (λ k below. search rules) (λ below. search rules)

pub returns-in-None-clause-value : goal.returns-in-None-clause-value
returns-in-None-clause-value c = shorn_at c.args.s.now c.saturating_sub-last.result (search rules) (λ k below. search rules) (λ below. search rules)

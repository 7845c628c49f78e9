use Rattle.std.proofs.Common.{rules, refl}
use Rattle.std.proofs.lemmas.List.Recursion.{and_is}
use Rattle.fields.specs.Fields.{digit, digits}
use Rattle.fields.proofs.all_digits.Goals as goal

pub returns : goal.returns
returns c = and_is digits digit refl (λ _ _. refl) c.args.s.now 0 c.all.result (λ e. search rules) (λ e. search rules)

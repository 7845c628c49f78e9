-- `channels_at::own` meets its contract.
-- Assumes nothing.
use Rattle.std.proofs.Common.{◌<◌, ◌∙◌, ℕ, ap, sym, arith}
use Rattle.registers.specs.Times.{times}
use Rattle.generators_at.proofs.Phases.{fits}
use Rattle.channels_at.proofs.Registers.{phase_in, with_register_is}
use Rattle.channels_at.proofs.own.Goals as goal

pub register_at-requires-clause-phase_in : goal.register_at-requires-clause-phase_in
register_at-requires-clause-phase_in g c =
    let k = g.C.Coursed.course in
    let f = fits _ k g.met.C.Coursed.fits c.args.place c.requires.place_in_week in
    let small : c.standing_of-at.result.phase < k.cycle = phase_in k c.args.place c.standing_of-at.result f.cycle_some c.standing_of-at.ensures in
    omega (arith, c.requires.phases_few)

pub returns : goal.returns
returns g c =
    let at = c.standing_of-at.result in
    c.with_register.ensures
    ∙ with_register_is (record g.C.Code.kind { start = c.args.start }) g.C.Coursed.course c.args.place at c.register_at.result c.standing_of-at.ensures
    (c.register_at.ensures ∙ ap (λ (f : ℕ → ℕ). times f at.phase c.args.start) (sym c.requires.of_l2))

-- `channels_at::tabled` meets its contract.
-- Assumes nothing.
use Rattle.std.proofs.Common.{◌<◌, ◌∙◌, arith}
use Rattle.generators_at.proofs.Phases.{fits}
use Rattle.channels_at.proofs.Registers.{phase_in, tabled_is}
use Rattle.channels_at.proofs.tabled.Goals as goal

pub register_at-register-requires-clause-chip_in_sequence : goal.register_at-register-requires-clause-chip_in_sequence
register_at-register-requires-clause-chip_in_sequence g c =
    let k = g.C.Coursed.course in
    let f = fits _ k g.met.C.Coursed.fits c.args.place c.requires.place_in_week in
    let small : c.standing_of-at.result.phase < k.cycle = phase_in k c.args.place c.standing_of-at.result f.cycle_some c.standing_of-at.ensures in
    omega (arith, c.requires.table_reaches)

pub returns : goal.returns
returns g c =
    let k = g.C.Coursed.course in
    let f = fits _ k g.met.C.Coursed.fits c.args.place c.requires.place_in_week in
    λ kind tabled.
    c.with_register.ensures
    ∙ tabled_is kind k c.args.place c.args.table.now c.args.from c.args.width c.standing_of-at.result c.register_at-register.result f.cycle_some
    tabled c.standing_of-at.ensures c.register_at-register.ensures

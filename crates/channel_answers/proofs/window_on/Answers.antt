use Rattle.std.proofs.Common.{◌+◌, ◌-◌, drop, arith, rules, length-take}
use Rattle.channel_answers.proofs.Windows.{window_fits}
use Rattle.channel_answers.proofs.window_on.Goals as goal

pub overflow_add-chips : goal.overflow_add-chips
overflow_add-chips g c =
    let fits = window_fits c.args.ch c.args.count c.args.at c.args.buffer.now _ _ _ c.in-Ok.ensures.reply in
    omega (arith, fits.1)

pub slice_bounds-chips-end : goal.slice_bounds-chips-end
slice_bounds-chips-end g c =
    let fits = window_fits c.args.ch c.args.count c.args.at c.args.buffer.now _ _ _ c.in-Ok.ensures.reply in
    omega (arith, fits.1)

pub ok_channel_chips-requires : goal.ok_channel_chips-requires
ok_channel_chips-requires g c =
    let a = c.args in
    let fits = window_fits a.ch a.count a.at a.buffer.now _ _ _ c.in-Ok.ensures.reply in
    (search rules, omega (arith, fits.0, length-take (a.at + a.count - a.at) (drop a.at c.window.new.buffer)))

use Rattle.std.proofs.Common.{rules, arith}
use Rattle.refusals.specs.Refusal.{number_of}
use Rattle.standards.proofs.Calls.{reach_refused, window_refused, window_filled}
use Rattle.standards.proofs.chips.reached.Goals as goal

pub returns-in_err-there : goal.returns-in_err-there
returns-in_err-there c =
    let refused = reach_refused 2 c.args.prn c.args.place 1024 (omega arith) (number_of c.in_err-there.field-0.0) c.in_err-there.ensures in
    search rules

pub returns-in_err-window : goal.returns-in_err-window
returns-in_err-window c =
    let refused =
    window_refused 2 c.args.prn c.args.place 1024 (omega arith) _ _ c.in_ok-there.ensures _ (search rules) c.in_err-window.field-0.0 _ c.in_err-window.ensures.reply
    in
    search rules

pub returns : goal.returns
returns c =
    window_filled 2 c.args.prn c.args.place 1024 (omega arith) _ _ c.in_ok-there.ensures _ (search rules) _ _ c.window.auto.buffer c.in_ok-window.ensures.reply

use Rattle.std.proofs.Common.{rules}
use Rattle.refusals.specs.Refusal.{number_of}
use Rattle.standards.proofs.Delays.{prn_refused, chips_refused, chips_taken}
use Rattle.standards.proofs.code_phases.delayed.Goals as goal

pub returns-in_err-g1 : goal.returns-in_err-g1
returns-in_err-g1 c = let refused = prn_refused c.args.prn (number_of c.in_err-g1.field-0.0) (search rules) in search rules

pub returns-in_err-gps_chips : goal.returns-in_err-gps_chips
returns-in_err-gps_chips c = absurd (chips_refused c.args.prn c.in_ok-g1.field-0 (search rules) c.in_err-gps_chips.field-0.0 c.in_err-gps_chips.ensures.answer)

pub returns : goal.returns
returns c =
    chips_taken c.args.prn c.in_ok-g1.field-0 (search rules) c.gps_chips.new.buffer c.register_of.result c.in_ok-gps_chips.ensures.chips_by_the_machine
    c.register_of.ensures.taken_in

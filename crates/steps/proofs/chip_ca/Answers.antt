-- `steps::chip_ca` meets its contract.
-- Assumes nothing.
use native.Mathlib.Omega.{arith}
use Rattle.starts.proofs.Ranges.{first_in, second_in}
use Rattle.steps.proofs.chip_ca.Goals as goal

pub stage_of-requires-2 : goal.stage_of-requires-2
stage_of-requires-2 c =
    let k = first_in c.args.ch.prn c.requires.listed in
    rw c.requires.stages_of_prn record { from_first_stage = k.first; to_stage_32 = omega arith }

pub stage_of-requires-3 : goal.stage_of-requires-3
stage_of-requires-3 c =
    let k = second_in c.args.ch.prn c.requires.listed in
    rw c.requires.stages_of_prn record { from_first_stage = k.first; to_stage_32 = omega arith }

pub returns : goal.returns
returns c =
    rw (c.stage_of.ensures.0, c.stage_of-2.ensures.0, c.stage_of-3.ensures.0, c.requires.stages_of_prn)

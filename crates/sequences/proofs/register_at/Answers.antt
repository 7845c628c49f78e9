-- `sequences::register_at` meets its contract.
-- Assumes nothing.
use Rattle.std.proofs.Common.{arith, ◌<◌, ◌^◌}
use Rattle.sequences.proofs.Words.{top_lt}
use Rattle.sequences.proofs.register_at.Goals as goal

pub overflow_cast-result-2 : goal.overflow_cast-result-2
overflow_cast-result-2 c =
    let word : c.word_at.result < 2 ^ 64 = omega arith in
    record { fits = top_lt _ _ c.requires.some_stage c.requires.stages_of_register word }

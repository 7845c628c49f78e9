use Rattle.std.proofs.Common.{arith}
use Rattle.fields.proofs.Bytes.{ten_small}
use Rattle.fields.proofs.number.Goals as goal

pub overflow_mul-n : goal.overflow_mul-n
overflow_mul-n c = omega (arith, ten_small c.loop-b.b-index (omega arith))

pub overflow_add-n : goal.overflow_add-n
overflow_add-n c = omega (arith, ten_small c.loop-b.b-index (omega arith))

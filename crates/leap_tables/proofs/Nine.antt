-- The nine tables are right: `refl` tests each whole, and `entry_is` carries the test to each entry. The rows by digits of eight are computed from their rows.
-- Assumes nothing.
use Rattle.std.proofs.Common.{refl, [], arith}
use Rattle.std.proofs.Math.Dec.{lit≤}
use Rattle.registers.specs.Register.{stage, sum_of, shift, shift_g1, shift_g2, shift_x1a, shift_x1b, shift_x2a, shift_x2b, shift_xa, shift_xb, shift_l2}
use Rattle.registers.specs.Row.{combine, columns}
use Rattle.registers.proofs.Shifts as shifts
use Rattle.leaps.specs.Rule.{EachEntry}
use Rattle.leaps.proofs.LawOfLeaps.{entry_is}
use Rattle.leaps.specs.Digits.{AsTheRows, of_values, row_by_digits, rows_by_digits}
use Rattle.leap_tables.specs.declared.by_digits.TheConstants as by_digits
use Rattle.leap_tables.specs.declared.tables.TheConstants.{G1, G2, X1A, X1B, X2A, X2B, XA, XB, L2}
use Rattle.leap_tables.specs.Tables.{TableOf}

pub g1 : TableOf 10 10 shift_g1 10 G1
unfolding combine columns stage sum_of shift
g1 = record { width_is = refl; rows_are = refl; few = lit≤ tt; right = refl }

pub entries_g1 : EachEntry shift_g1 10 10 G1
entries_g1 = entry_is shifts.g1 10 G1 g1.right

pub digits_g1 : AsTheRows 10 G1 by_digits.G1
unfolding combine of_values row_by_digits rows_by_digits
digits_g1 = record { few_stages = lit≤ tt; as_rows = λ some. refl }

pub g2 : TableOf 10 10 shift_g2 10 G2
unfolding combine columns stage sum_of shift
g2 = record { width_is = refl; rows_are = refl; few = lit≤ tt; right = refl }

pub entries_g2 : EachEntry shift_g2 10 10 G2
entries_g2 = entry_is shifts.g2 10 G2 g2.right

pub digits_g2 : AsTheRows 10 G2 by_digits.G2
unfolding combine of_values row_by_digits rows_by_digits
digits_g2 = record { few_stages = lit≤ tt; as_rows = λ some. refl }

pub x1a : TableOf 12 12 shift_x1a 12 X1A
unfolding combine columns stage sum_of shift
x1a = record { width_is = refl; rows_are = refl; few = lit≤ tt; right = refl }

pub entries_x1a : EachEntry shift_x1a 12 12 X1A
entries_x1a = entry_is shifts.x1a 12 X1A x1a.right

pub digits_x1a : AsTheRows 12 X1A by_digits.X1A
unfolding combine of_values row_by_digits rows_by_digits
digits_x1a = record { few_stages = lit≤ tt; as_rows = λ some. refl }

pub x1b : TableOf 12 12 shift_x1b 12 X1B
unfolding combine columns stage sum_of shift
x1b = record { width_is = refl; rows_are = refl; few = lit≤ tt; right = refl }

pub entries_x1b : EachEntry shift_x1b 12 12 X1B
entries_x1b = entry_is shifts.x1b 12 X1B x1b.right

pub digits_x1b : AsTheRows 12 X1B by_digits.X1B
unfolding combine of_values row_by_digits rows_by_digits
digits_x1b = record { few_stages = lit≤ tt; as_rows = λ some. refl }

pub x2a : TableOf 12 12 shift_x2a 12 X2A
unfolding combine columns stage sum_of shift
x2a = record { width_is = refl; rows_are = refl; few = lit≤ tt; right = refl }

pub entries_x2a : EachEntry shift_x2a 12 12 X2A
entries_x2a = entry_is shifts.x2a 12 X2A x2a.right

pub digits_x2a : AsTheRows 12 X2A by_digits.X2A
unfolding combine of_values row_by_digits rows_by_digits
digits_x2a = record { few_stages = lit≤ tt; as_rows = λ some. refl }

pub x2b : TableOf 12 12 shift_x2b 12 X2B
unfolding combine columns stage sum_of shift
x2b = record { width_is = refl; rows_are = refl; few = lit≤ tt; right = refl }

pub entries_x2b : EachEntry shift_x2b 12 12 X2B
entries_x2b = entry_is shifts.x2b 12 X2B x2b.right

pub digits_x2b : AsTheRows 12 X2B by_digits.X2B
unfolding combine of_values row_by_digits rows_by_digits
digits_x2b = record { few_stages = lit≤ tt; as_rows = λ some. refl }

pub xa : TableOf 13 13 shift_xa 13 XA
unfolding combine columns stage sum_of shift
xa = record { width_is = refl; rows_are = refl; few = lit≤ tt; right = refl }

pub entries_xa : EachEntry shift_xa 13 13 XA
entries_xa = entry_is shifts.xa 13 XA xa.right

pub digits_xa : AsTheRows 13 XA by_digits.XA
unfolding combine of_values row_by_digits rows_by_digits
digits_xa = record { few_stages = lit≤ tt; as_rows = λ some. refl }

pub xb : TableOf 13 13 shift_xb 13 XB
unfolding combine columns stage sum_of shift
xb = record { width_is = refl; rows_are = refl; few = lit≤ tt; right = refl }

pub entries_xb : EachEntry shift_xb 13 13 XB
entries_xb = entry_is shifts.xb 13 XB xb.right

pub digits_xb : AsTheRows 13 XB by_digits.XB
unfolding combine of_values row_by_digits rows_by_digits
digits_xb = record { few_stages = lit≤ tt; as_rows = λ some. refl }

pub l2 : TableOf 27 20 shift_l2 27 L2
unfolding combine columns shift_l2
l2 = record { width_is = refl; rows_are = refl; few = lit≤ tt; right = refl }

pub entries_l2 : EachEntry shift_l2 20 27 L2
entries_l2 = entry_is shifts.l2 20 L2 l2.right

pub no_digits_l2 : AsTheRows 27 L2 []
no_digits_l2 = record { few_stages = lit≤ tt; as_rows = λ some. absurd (omega arith) }

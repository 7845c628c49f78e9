-- `by_place_l5::write` meets its contract.
-- Assumes nothing.
use Rattle.std.proofs.Common.{◌≡◌, ℕ, ◌+◌, ◌%◌, length, arith, sym, ◌∙◌}
use lib.Dec.{lit≤}
use Rattle.registers.specs.Register.{shift_xa, shift_xb}
use Rattle.starts.specs.Starts.{start_xa}
use Rattle.columns.proofs.Rounds.{columns_round}
use Rattle.columns.proofs.Rows.{filled_none, part_filled, filled_all}
use Rattle.columns.proofs.Places.{placed}
use Rattle.by_place_l5.specs.Codes.{code_l5}
use Rattle.by_place_l5.proofs.Sums.{chip_xa, chip_xb, chip_on, sum_same}
use Rattle.by_place_l5.proofs.write.Goals as goal

pub loop-written-init : goal.loop-written-init
loop-written-init c = record { in_period = omega arith; within = omega arith; filled = filled_none (chip_on c.args.advance c.args.place) c.args.out.now }

pub loop-written-preserved : goal.loop-written-preserved
loop-written-preserved c =
    let l = c.loop-written in
    let at = l.written in
    let inv = l.invariant in
    record {
      in_period = on c.args.place at l.here c.min-n.result inv.in_period;
      within = omega arith;
      filled =
          part_filled (chip_on c.args.advance c.args.place) l.out at _ _ _ _ inv.filled
          (c.write_two.ensures chip_xa chip_xb
          (columns_round shift_xa 13 8190 start_xa c.xa.result.now c.xa.ensures (lit≤ tt) (omega arith))
          (columns_round shift_xb 13 8191 8191 c.xb.result.now c.xb.ensures (lit≤ tt) (omega arith)))
          (λ j h. sum_same c.args.advance c.args.place at l.here j inv.in_period (omega (arith, h)))
          (omega arith) (omega arith);
    }
  where
    on : (p at here n : ℕ) → here ≡ (p + at) % 10230 → (here + n) % 10230 ≡ (p + (at + n)) % 10230
    on p at here n e = omega (arith, e)

pub returns : goal.returns
returns c =
    let l = c.loop-written in
    let n = length c.args.out.now in
    filled_all (chip_on c.args.advance c.args.place) l.out l.written n l.invariant.filled c.loop-written-test.false (omega arith)
    ∙ sym (placed (code_l5 c.args.advance) 6187104000000 n c.args.place)

-- `by_place_ca::write` meets its contract.
-- Assumes nothing.
use Rattle.std.proofs.Common.{ℕ, length, map, arith, sym, ap, ◌∙◌}
use lib.Dec.{lit≤}
use Rattle.registers.specs.Register.{shift_g1, shift_g2}
use Rattle.starts.specs.Starts.{start_g1, start_g2}
use Rattle.machine.specs.Signals.{places_from}
use Rattle.columns.proofs.Rounds.{columns_round}
use Rattle.columns.proofs.Rows.{row_same}
use Rattle.columns.proofs.Places.{placed}
use Rattle.standard.specs.Standard.{standard}
use Rattle.by_place_ca.proofs.DelayedG2.{chip_g1, chip_g2, code, sum_same}
use Rattle.by_place_ca.proofs.write.Goals as goal

pub returns : goal.returns
unfolding standard
returns c =
    let n = length c.args.out.now in
    let place = c.args.place in
    let delay = c.of-delay.result in
    c.write_two.ensures chip_g1 chip_g2
    (columns_round shift_g1 10 1023 start_g1 c.g1.result.now c.g1.ensures (lit≤ tt) (omega arith))
    (columns_round shift_g2 10 1023 start_g2 c.g2.result.now c.g2.ensures (lit≤ tt) (omega arith))
    ∙ row_same _ _ n (λ j h. sum_same delay place j)
    ∙ sym (placed (code delay) 618710400000 n place)
    ∙ ap (λ (d : ℕ). map (code d) (places_from 618710400000 place n)) c.of-delay.ensures.value

-- `by_place_p::write` meets its contract.
-- Assumes nothing.
use Rattle.std.proofs.Common.{◌≡◌, ℕ, ◌+◌, ◌%◌, length, arith, sym, ◌∙◌}
use Rattle.machine.specs.Signals.{week_p}
use Rattle.standard.specs.Standard.{standard}
use Rattle.columns.proofs.Rows.{filled_none, part_filled, filled_all}
use Rattle.columns.proofs.Places.{placed}
use Rattle.by_place_p.proofs.Runs.{chip_at, run_is}
use Rattle.by_place_p.proofs.write.Goals as goal

pub loop-written-init : goal.loop-written-init
loop-written-init c = (omega (arith, c.requires), omega arith, filled_none (chip_at c.args.prn.number c.args.place) c.args.out.now)

pub loop-written-preserved : goal.loop-written-preserved
loop-written-preserved c =
    let l = c.loop-written in
    let at = l.written in
    let n = c.min-n.result in
    let inv = l.invariant in
    let four = c.sources_at-four in
    let run = run_is c.args.prn.number c.args.place at l.here n _ inv.0 four.result four.ensures.x1a four.ensures.x1b four.ensures.x2a four.ensures.x2b
    (omega arith) (omega arith) (omega arith) (omega arith) c.phases.result c.phases.ensures _ c.write_four.ensures in (
      round c.args.place at l.here n inv.0,
      omega arith,
      part_filled (chip_at c.args.prn.number c.args.place) l.out at run.chips _ _ _ inv.2 run.stand (λ j h. run.right j (omega (arith, h))) (omega arith) (omega arith),
    )
  where
    round : (p at here n : ℕ) → here ≡ (p + at) % 6187104000000 → (here + n) % 6187104000000 ≡ (p + (at + n)) % 6187104000000
    round p at here n e = omega (arith, e)

pub returns : goal.returns
unfolding standard
returns c =
    let l = c.loop-written in
    filled_all (chip_at c.args.prn.number c.args.place) l.out l.written (length c.args.out.now) l.invariant.2 c.loop-written-test.false (omega arith)
    ∙ sym (placed (standard 2 c.args.prn.number) week_p (length c.args.out.now) c.args.place)

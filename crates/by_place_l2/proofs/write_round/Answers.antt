-- `by_place_l2::write_round` meets its contract.
-- Assumes nothing.
use Rattle.std.proofs.Common.{◌≡◌, ◌+◌, ◌%◌, length, arith, refl, sym}
use Rattle.std.proofs.Math.Nat.{mod-eq_of_lt}
use Rattle.registers.specs.Register.{shift_l2}
use Rattle.registers.proofs.Repeat.{times_none}
use Rattle.registers.proofs.Shifts.{l2, times_keeps}
use Rattle.columns.proofs.Rows.{filled_none, part_filled, filled_all}
use Rattle.turns.specs.Turns.{chip_from}
use Rattle.by_place_l2.proofs.Cycles.{in_run, at_end}
use Rattle.by_place_l2.proofs.write_round.Goals as goal

pub loop-written-init : goal.loop-written-init
loop-written-init c =
    let a = c.args in
    let first : a.phase + 0 ≡ a.phase = omega arith in
    record {
      register_in = rw c.register_at-register.ensures (times_keeps l2 a.phase a.start c.requires.start_in);
      register_is = c.register_at-register.ensures;
      here_in = c.requires.phase_in;
      here_is = λ h. rw (first, mod-eq_of_lt c.requires.phase_in) refl;
      within = omega arith;
      filled = filled_none (λ j. chip_from a.start ((a.phase + j) % a.cycle)) a.out.now;
    }

pub loop-written-preserved : goal.loop-written-preserved
loop-written-preserved c =
    let a = c.args in
    let l = c.loop-written in
    let stands = l.invariant.here_is c.loop-written-test.true in
    let n = c.min-n.result in
    record {
      register_in = c.requires.start_in;
      register_is = sym (times_none shift_l2 a.start);
      here_in = omega arith;
      here_is = λ more. at_end a.start a.cycle a.phase l.written l.here stands n (omega (arith, more));
      within = omega arith;
      filled = part_filled (λ j. chip_from a.start ((a.phase + j) % a.cycle)) l.out l.written _ _ _ _ l.invariant.filled c.write.ensures
          (λ j h. in_run a.start a.cycle a.phase l.written l.here stands l.register j l.invariant.register_is (omega (arith, h))) (omega arith) (omega arith);
    }

pub returns : goal.returns
returns c =
    let a = c.args in
    let l = c.loop-written in
    filled_all (λ j. chip_from a.start ((a.phase + j) % a.cycle)) l.out l.written (length a.out.now) l.invariant.filled c.loop-written-test.false (omega arith)

-- `channels_at::lines::line_at` meets its contract.
-- Assumes nothing.
use Rattle.std.proofs.Common.{◌+◌, ◌<◌, ◌≤◌, refl, arith}
use Rattle.std.proofs.lemmas.Nat.{xor_lt}
use native.Mathlib.Nat.{le_of_suc-le-suc}
use lib.Dec.{lit<}
use Rattle.starts.specs.Starts.{start_x2a, start_x2b}
use Rattle.machine.specs.Signals.{week_p, x2a, x2b}
use Rattle.week.specs.Week.{course_x2a, course_x2b}
use Rattle.week.proofs.WeekEnd.{late, x2a_goes, x2b_goes}
use Rattle.channels_at.proofs.Registers.{phase_in, words_tell, word_small}
use Rattle.channels_at.proofs.Ahead.{x2a_runs_on, x2b_runs_on, next_tells}
use Rattle.channels_at.proofs.DelayLine.{filled_first, filled_more, filled_all}
use Rattle.channels_at.proofs.lines.line_at.Goals as goal

pub loop-at-init : goal.loop-at-init
loop-at-init c = rw c.saturating_sub-at.ensures (filled_first c.args.place)

pub next_of-x2a-requires-clause-phase_in_cycle : goal.next_of-x2a-requires-clause-phase_in_cycle
next_of-x2a-requires-clause-phase_in_cycle c = le_of_suc-le-suc (phase_in course_x2a c.loop-at.at c.standing_of.result (lit< tt) c.standing_of.ensures)

pub next_of-x2b-requires-clause-phase_in_cycle : goal.next_of-x2b-requires-clause-phase_in_cycle
next_of-x2b-requires-clause-phase_in_cycle c =
    le_of_suc-le-suc (phase_in course_x2b c.loop-at.at c.standing_of-in-loop-at.result (lit< tt) c.standing_of-in-loop-at.ensures)

pub loop-at-preserved : goal.loop-at-preserved
loop-at-preserved c =
    let at = c.loop-at.at in
    let a = c.standing_of.result in
    let b = c.standing_of-in-loop-at.result in
    let in_a : a.phase < 4092 = phase_in course_x2a at a (lit< tt) c.standing_of.ensures in
    let in_b : b.phase < 4093 = phase_in course_x2b at b (lit< tt) c.standing_of-in-loop-at.ensures in
    let here : at < c.args.place = omega arith in
    let n = c.min-n.result in
    let wa = c.next_of-x2a.result.word in
    let wb = c.next_of-x2b.result.word in
    let room : at + n ≤ c.args.place = omega arith in
    filled_more c.args.place at c.loop-at.line c.loop-at.invariant wa wb n _ (xor_lt 64 wa wb (omega arith) (omega arith)) (omega arith) room
    (next_tells x2a course_x2a week_p late x2a_goes x2a_runs_on 12 4091 _ at n a _ (words_tell 12 x2a.shift 65 start_x2a 4091 _ c.sequence.ensures (lit< tt))
    (word_small 12 x2a.shift 65 start_x2a a.phase _ c.sequence.ensures (omega arith)) refl (omega arith) c.standing_of.ensures c.next_of-x2a.ensures (omega arith) (omega arith)
    (omega (arith, room, c.requires)))
    (next_tells x2b course_x2b week_p late x2b_goes x2b_runs_on 12 4092 _ at n b _ (words_tell 12 x2b.shift 65 start_x2b 4092 _ c.sequence-in-loop-at.ensures (lit< tt))
    (word_small 12 x2b.shift 65 start_x2b b.phase _ c.sequence-in-loop-at.ensures (omega arith)) refl (omega arith) c.standing_of-in-loop-at.ensures c.next_of-x2b.ensures
    (omega arith) (omega arith) (omega (arith, room, c.requires)))
    c.line_after-line.ensures

pub returns : goal.returns
returns c = filled_all c.args.place c.loop-at.at c.loop-at.line c.loop-at.invariant (omega arith)

-- `by_place_p::sources_at` meets its contract.
-- Assumes nothing.
use Rattle.std.proofs.Common.{rules, arith, refl}
use lib.Dec.{lit≤}
use Rattle.registers.specs.Register.{shift_x1a, shift_x1b, shift_x2a, shift_x2b}
use Rattle.starts.specs.Starts.{start_x1a, start_x1b, start_x2a, start_x2b}
use Rattle.week.specs.Week.{course_x1a, course_x1b, course_x2a, course_x2b}
use Rattle.standard.proofs.SameRegisters.{x1a_chip, x1b_chip, x2a_chip, x2b_chip}
use Rattle.by_place_p.specs.Feeds.{chip_x1a, chip_x1b, chip_x2a, chip_x2b}
use Rattle.by_place_p.proofs.Runs.{fed}
use Rattle.by_place_p.proofs.sources_at.Goals as goal

pub returns-clause-x1a : goal.returns-clause-x1a
returns-clause-x1a c =
    fed _ _ _ _ _ c.standing.ensures refl shift_x1a start_x1a course_x1a chip_x1a x1a_chip (lit≤ tt) c.course.ensures (search rules) (omega arith)

pub returns-clause-x1b : goal.returns-clause-x1b
returns-clause-x1b c =
    fed _ _ _ _ _ c.standing-2.ensures refl shift_x1b start_x1b course_x1b chip_x1b x1b_chip (lit≤ tt) c.course-2.ensures (search rules) (omega arith)

pub returns-clause-x2a : goal.returns-clause-x2a
returns-clause-x2a c =
    fed _ _ _ _ _ c.standing-3.ensures c.place_of_x2-before.ensures shift_x2a start_x2a course_x2a chip_x2a x2a_chip (lit≤ tt) c.course-3.ensures (search rules) (omega arith)

pub returns-clause-x2b : goal.returns-clause-x2b
returns-clause-x2b c =
    fed _ _ _ _ _ c.standing-4.ensures c.place_of_x2-before.ensures shift_x2b start_x2b course_x2b chip_x2b x2b_chip (lit≤ tt) c.course-4.ensures (search rules) (omega arith)

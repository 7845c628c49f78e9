-- `by_place::write_chips` meets its contract.
-- Assumes nothing.
use mathlib.Core.Path.{refl}
use Rattle.by_place.proofs.ByTheMachine.{by_the_machine}
use Rattle.by_place.proofs.write_chips.Goals as goal

pub returns-in-Ca-clause-by_the_machine : goal.returns-in-Ca-clause-by_the_machine
returns-in-Ca-clause-by_the_machine c = rw c.in-Ca.is (by_the_machine 1 c.args.prn.number c.args.place _ _ refl c.args.prn.listed c.write.ensures)

pub returns-in-P-clause-by_the_machine : goal.returns-in-P-clause-by_the_machine
returns-in-P-clause-by_the_machine c = rw c.in-P.is (by_the_machine 2 c.args.prn.number c.args.place _ _ refl c.args.prn.listed c.write-in-P.ensures)

pub returns-in-L2Cm-clause-by_the_machine : goal.returns-in-L2Cm-clause-by_the_machine
returns-in-L2Cm-clause-by_the_machine c = rw c.in-L2Cm.is (by_the_machine 3 c.args.prn.number c.args.place _ _ refl c.args.prn.listed c.write_cm.ensures)

pub returns-in-L2Cl-clause-by_the_machine : goal.returns-in-L2Cl-clause-by_the_machine
returns-in-L2Cl-clause-by_the_machine c = rw c.in-L2Cl.is (by_the_machine 4 c.args.prn.number c.args.place _ _ refl c.args.prn.listed c.write_cl.ensures)

pub returns-in-I5-clause-by_the_machine : goal.returns-in-I5-clause-by_the_machine
returns-in-I5-clause-by_the_machine c = rw c.in-I5.is (by_the_machine 5 c.args.prn.number c.args.place _ _ refl c.args.prn.listed c.write_i5.ensures)

pub returns-in-Q5-clause-by_the_machine : goal.returns-in-Q5-clause-by_the_machine
returns-in-Q5-clause-by_the_machine c = rw c.in-Q5.is (by_the_machine 6 c.args.prn.number c.args.place _ _ refl c.args.prn.listed c.write_q5.ensures)

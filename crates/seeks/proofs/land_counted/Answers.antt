-- `seeks::land_counted` meets its contract.
-- Assumes nothing.
use mathlib.Core.Path.{◌∙◌}
use Rattle.starts.proofs.Ranges.{start_cm_in, start_cl_in, start_i5_in, start_q5_in}
use Rattle.seeks.proofs.Landing.{landed_is}
use Rattle.seeks.proofs.land_counted.Goals as goal

pub land_l2-requires-clause-start_in_register : goal.land_l2-requires-clause-start_in_register
land_l2-requires-clause-start_in_register c = rw c.start_cm.ensures (start_cm_in c.args.prn.number)

pub land_l2-requires-in-L2Cl-clause-start_in_register : goal.land_l2-requires-in-L2Cl-clause-start_in_register
land_l2-requires-in-L2Cl-clause-start_in_register c = rw c.start_cl.ensures (start_cl_in c.args.prn.number)

pub land_l5-requires-clause-start_in_register : goal.land_l5-requires-clause-start_in_register
land_l5-requires-clause-start_in_register c = rw c.start_i5.ensures (start_i5_in c.args.prn.number)

pub land_l5-requires-in-Q5-clause-start_in_register : goal.land_l5-requires-in-Q5-clause-start_in_register
land_l5-requires-in-Q5-clause-start_in_register c = rw c.start_q5.ensures (start_q5_in c.args.prn.number)

pub returns-in-Ca-clause-sought : goal.returns-in-Ca-clause-sought
returns-in-Ca-clause-sought c =
    rw c.in-Ca.is (c.land_ca.ensures ∙ landed_is 1 c.args.prn.number c.args.place (rw c.in-Ca.is at c.requires))

pub returns-in-P-clause-sought : goal.returns-in-P-clause-sought
returns-in-P-clause-sought c = rw c.in-P.is (c.land_p.ensures.sought ∙ landed_is 2 c.args.prn.number c.args.place (rw c.in-P.is at c.requires))

pub returns-in-L2Cm-clause-sought : goal.returns-in-L2Cm-clause-sought
returns-in-L2Cm-clause-sought c =
    rw c.in-L2Cm.is ((rw (c.in-L2Cm.is, c.start_cm.ensures) at c.land_l2.ensures)
    ∙ landed_is 3 c.args.prn.number c.args.place (rw c.in-L2Cm.is at c.requires))

pub returns-in-L2Cl-clause-sought : goal.returns-in-L2Cl-clause-sought
returns-in-L2Cl-clause-sought c =
    rw c.in-L2Cl.is ((rw (c.in-L2Cl.is, c.start_cl.ensures) at c.land_l2-in-L2Cl.ensures)
    ∙ landed_is 4 c.args.prn.number c.args.place (rw c.in-L2Cl.is at c.requires))

pub returns-in-I5-clause-sought : goal.returns-in-I5-clause-sought
returns-in-I5-clause-sought c =
    rw c.in-I5.is ((rw (c.in-I5.is, c.start_i5.ensures) at c.land_l5.ensures)
    ∙ landed_is 5 c.args.prn.number c.args.place (rw c.in-I5.is at c.requires))

pub returns-in-Q5-clause-sought : goal.returns-in-Q5-clause-sought
returns-in-Q5-clause-sought c =
    rw c.in-Q5.is ((rw (c.in-Q5.is, c.start_q5.ensures) at c.land_l5-in-Q5.ensures)
    ∙ landed_is 6 c.args.prn.number c.args.place (rw c.in-Q5.is at c.requires))

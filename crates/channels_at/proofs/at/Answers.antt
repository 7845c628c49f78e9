-- `channels_at::at` meets its contract.
-- Assumes nothing.
use Rattle.std.proofs.Common.{◌∙◌, sym}
use Rattle.starts.specs.Starts.{advanced_xb, start_i5, start_q5}
use Rattle.week.proofs.LawOfTheWeek.{at_place}
use Rattle.channels_at.proofs.at.Goals as goal

pub returns-in-Ca : goal.returns-in-Ca
returns-in-Ca c = rw c.in-Ca.is (c.at_ca.ensures ∙ sym (at_place 1 c.args.prn.number c.args.place (rw c.in-Ca.is at c.requires)))

pub returns-in-P : goal.returns-in-P
returns-in-P c = rw c.in-P.is (c.at_p.ensures ∙ sym (at_place 2 c.args.prn.number c.args.place (rw c.in-P.is at c.requires)))

pub returns-in-L2Cm : goal.returns-in-L2Cm
returns-in-L2Cm c = rw c.in-L2Cm.is (c.at_cm.ensures ∙ sym (at_place 3 c.args.prn.number c.args.place (rw c.in-L2Cm.is at c.requires)))

pub returns-in-L2Cl : goal.returns-in-L2Cl
returns-in-L2Cl c = rw c.in-L2Cl.is (c.at_cl.ensures ∙ sym (at_place 4 c.args.prn.number c.args.place (rw c.in-L2Cl.is at c.requires)))

pub returns-in-I5 : goal.returns-in-I5
unfolding start_i5 advanced_xb
returns-in-I5 c = rw c.in-I5.is ((rw (c.in-I5.is, c.of_i5.ensures.value) at c.at_l5.ensures) ∙ sym (at_place 5 c.args.prn.number c.args.place (rw c.in-I5.is at c.requires)))

pub returns-in-Q5 : goal.returns-in-Q5
unfolding start_q5 advanced_xb
returns-in-Q5 c = rw c.in-Q5.is ((rw (c.in-Q5.is, c.of_q5.ensures.value) at c.at_l5-in-Q5.ensures) ∙ sym (at_place 6 c.args.prn.number c.args.place (rw c.in-Q5.is at c.requires)))

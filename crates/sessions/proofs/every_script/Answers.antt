use Rattle.sessions.proofs.EveryScript.{every_script, step_asks}
use Rattle.sessions.proofs.every_script.Goals as goal

pub returns-clause-scripts : goal.returns-clause-scripts
returns-clause-scripts c = every_script

pub returns-clause-asked : goal.returns-clause-asked
returns-clause-asked c = step_asks

-- `commands::behind` meets its contract.
-- Assumes nothing.
use Rattle.commands.proofs.Beginnings.{behind_told}
use Rattle.commands.proofs.behind.Goals as goal

pub returns : goal.returns
returns c = behind_told c.args.word.now c.args.text.now c.strip_prefix.result c.strip_prefix.ensures.cases

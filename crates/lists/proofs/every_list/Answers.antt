use Rattle.lists.proofs.EveryList.{every_list}
use Rattle.lists.proofs.every_list.Goals as goal

pub returns : goal.returns
returns c = every_list

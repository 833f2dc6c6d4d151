-- `closing::sets::count_in`.
use Rattle.closing.proofs.SetWays.{count_is, count_small}
use Rattle.closing.proofs.sets.count_in.Goals as goal

pub returns : goal.returns
returns c = (search count_is, search count_small)

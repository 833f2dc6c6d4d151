-- `batch::Counts::amounts_replaced`.
use Rattle.batch.proofs.CountWays.{replaced}
use Rattle.batch.proofs.Counts.amounts_replaced.Goals as goal

pub returns : goal.returns
returns c = search replaced

-- `batch::Counts::one_live_more`.
use Rattle.batch.proofs.CountWays.{live_more}
use Rattle.batch.proofs.Counts.one_live_more.Goals as goal

pub returns : goal.returns
returns c = search live_more

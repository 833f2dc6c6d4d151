-- `batch::right_lengths`.
use Rattle.batch.proofs.StateWays.{lengths_are}
use Rattle.batch.proofs.right_lengths.Goals as goal

pub returns : goal.returns
returns c = search lengths_are

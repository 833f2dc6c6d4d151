-- `batch::counts_after`.
use Rattle.batch.specs.Work.{counts_after}
use Rattle.batch.proofs.counts_after.Goals as goal

pub returns : goal.returns
unfolding counts_after
returns c = rw (c.journal_grown.ensures, c.counted.ensures, c.body_length.ensures.0)

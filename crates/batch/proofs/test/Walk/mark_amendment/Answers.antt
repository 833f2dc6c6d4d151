-- `batch::test::Walk::mark_amendment`.
use Rattle.batch.proofs.TestWays.{live_mark, live_mark_fits}
use Rattle.batch.proofs.test.Walk.mark_amendment.Goals as goal

pub offset_bounds-self-k : goal.offset_bounds-self-k
offset_bounds-self-k c = search live_mark_fits

pub bounds-self-k : goal.bounds-self-k
bounds-self-k c = search live_mark

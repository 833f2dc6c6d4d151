-- `batch::test::Walk::mark_cancellation`.
use Rattle.batch.proofs.TestWays.{live_mark, live_mark_fits}
use Rattle.batch.proofs.test.Walk.mark_cancellation.Goals as goal

pub offset_bounds-self-k : goal.offset_bounds-self-k
offset_bounds-self-k c = search live_mark_fits

pub bounds-self-k : goal.bounds-self-k
bounds-self-k c = search live_mark

pub bounds-self-k-2 : goal.bounds-self-k-2
bounds-self-k-2 c = search live_mark

-- `batch::test::line_same`.
use Rattle.batch.proofs.LineWays.{line_open, line_plain, line_live, line_other, line_struck}
use Rattle.batch.proofs.test.line_same.Goals as goal

pub returns-then-not-ended : goal.returns-then-not-ended
returns-then-not-ended c = search line_open

pub returns-then-not-cancelled : goal.returns-then-not-cancelled
returns-then-not-cancelled c = search line_plain

pub returns-then-not-struck : goal.returns-then-not-struck
returns-then-not-struck c = search line_live

pub returns-then-not-same : goal.returns-then-not-same
returns-then-not-same c = search line_other

pub returns : goal.returns
returns c = search line_struck

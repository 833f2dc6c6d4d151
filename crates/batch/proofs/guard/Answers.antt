-- `batch::guard`.
use Rattle.batch.proofs.GuardWays.{guard_short, guard_table, guarded}
use Rattle.batch.proofs.guard.Goals as goal

pub returns-then-not-right_lengths : goal.returns-then-not-right_lengths
returns-then-not-right_lengths c = guard_short _ _ _ _ _ c.right_lengths.ensures c.if-not-right_lengths.true

pub returns-then-not-right : goal.returns-then-not-right
returns-then-not-right c = guard_table _ _ _ _ _ c.right_lengths.ensures c.if-not-right_lengths.false _ c.right.ensures c.if-not-right.true

pub returns : goal.returns
returns c = guarded _ _ _ _ _ c.right_lengths.ensures c.if-not-right_lengths.false _ c.right.ensures c.if-not-right.false _ c.test.ensures _ c.ok_or.ensures.value

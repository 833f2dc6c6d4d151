-- `batch::test::Walk::live_place`.
use mathlib.Core.Path.{◌∙◌}
use Rattle.batch.proofs.TestWays.{live_none, mark_fits, found_marked, live_odd, live_there}
use Rattle.batch.proofs.test.Walk.live_place.Goals as goal

pub returns-in_err-k : goal.returns-in_err-k
returns-in_err-k c = c.from_residual.ensures ∙ live_none _ _ _ _ _ _ c.requires c.find.ensures c.in_err-k.was

pub offset_bounds-self-k : goal.offset_bounds-self-k
offset_bounds-self-k c = mark_fits _ _ _ _ _ _ c.requires c.find.ensures _ c.in_ok-k.was

pub bounds-self-k : goal.bounds-self-k
bounds-self-k c = found_marked _ _ _ _ _ _ c.requires c.find.ensures _ c.in_ok-k.was

pub returns-then-self-k-eq1 : goal.returns-then-self-k-eq1
returns-then-self-k-eq1 c = live_odd _ _ _ _ _ _ c.requires c.find.ensures _ c.in_ok-k.was c.if-self-k-eq1.true

pub returns : goal.returns
returns c = live_there _ _ _ _ _ _ c.requires c.find.ensures _ c.in_ok-k.was c.if-self-k-eq1.false

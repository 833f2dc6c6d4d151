-- `batch::undo`.
use mathlib.Core.Path.{refl}
use Rattle.batch.specs.Batch.{Undo}
use Rattle.batch.proofs.CallWays.{is_other, guard_refuses}
use Rattle.batch.proofs.UndoCall.{undo_none, undo_ready, undo_reach, undo_done}
use Rattle.batch.proofs.undo.Goals as goal

pub returns-in_err-found : goal.returns-in_err-found
returns-in_err-found c = guard_refuses _ _ _ _ _ c.guard.ensures Undo (is_other Undo refl) refl _ c.in_err-found.was _ c.from_residual.ensures.1

pub returns-then-c-eq0 : goal.returns-then-c-eq0
returns-then-c-eq0 c = undo_none _ _ _ _ _ c.guard.ensures _ c.in_ok-found.was c.if-c-eq0.true

pub take_back-counts-requires : goal.take_back-counts-requires
take_back-counts-requires c = undo_ready _ _ _ _ _ c.guard.ensures _ c.in_ok-found.was c.if-c-eq0.false

pub clear_entry-requires : goal.clear_entry-requires
clear_entry-requires c = undo_reach _ _ _ _ _ c.guard.ensures _ c.in_ok-found.was c.if-c-eq0.false

pub returns : goal.returns
returns c = undo_done _ _ _ _ _ c.guard.ensures _ c.in_ok-found.was c.if-c-eq0.false _ _ _ c.take_back-counts.ensures c.clear_entry.ensures

-- `batch::test::Walk::step`.
use mathlib.Core.Path.{refl}
use Rattle.batch.proofs.StepWays.{step_none, step_ends, step_refused, step_judged}
use Rattle.batch.proofs.test.Walk.step.Goals as goal

pub returns-in_err-kind : goal.returns-in_err-kind
returns-in_err-kind c = record { stepped = rw c.from_residual.ensures (step_none _ _ _ _ _ _ _ c.requires _ c.kind_at.ensures _ _ c.in_err-kind.was); kept = (refl, refl, refl) }

pub slice_bounds-body-end : goal.slice_bounds-body-end
slice_bounds-body-end c = let ends = step_ends _ _ _ _ _ _ _ c.requires _ c.kind_at.ensures _ c.in_ok-kind.was _ c.body_length.ensures in search ends

pub returns-in_err-named : goal.returns-in_err-named
returns-in_err-named c = record { stepped = rw c.from_residual-in_err-named.ensures (step_refused _ _ _ _ _ _ _ c.requires _ c.kind_at.ensures _ c.in_ok-kind.was _ c.body_length.ensures _ _ _ _ c.mark_entry.ensures.marked c.in_err-named.was); kept = c.mark_entry.ensures.kept }

pub returns : goal.returns
returns c = record { stepped = step_judged _ _ _ _ _ _ _ c.requires _ c.kind_at.ensures _ c.in_ok-kind.was _ c.body_length.ensures _ _ _ _ c.mark_entry.ensures.marked _ c.in_ok-named.was _ c.held_after.ensures; kept = c.mark_entry.ensures.kept }

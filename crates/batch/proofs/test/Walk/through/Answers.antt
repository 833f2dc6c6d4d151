-- `batch::test::Walk::through`.
use mathlib.Core.Path.{refl, ◌∙◌}
use Rattle.batch.proofs.WalkWays.{walk_starts, going_steps, walk_fails, going_less, going_on, walk_ends}
use Rattle.batch.proofs.test.Walk.through.Goals as goal

pub loop-at-init : goal.loop-at-init
loop-at-init c = (refl, refl, walk_starts _ _ _ _ _ c.requires)

pub step-requires : goal.step-requires
step-requires c = going_steps _ _ _ _ _ _ _ _ _ _ _ c.loop-at.invariant.2 c.loop-at-test.true

pub returns-in_err-at : goal.returns-in_err-at
returns-in_err-at c =
    rw (c.from_residual.ensures, ← c.loop-at.invariant.0, ← c.loop-at.invariant.1) (walk_fails _ _ _ _ _ _ _ _ _ _ _ c.loop-at.invariant.2 c.loop-at-test.true _ _ _ c.step.ensures.stepped c.in_err-at.was)

pub loop-at-smaller : goal.loop-at-smaller
loop-at-smaller c = going_less _ _ _ _ _ _ _ _ _ _ _ c.loop-at.invariant.2 c.loop-at-test.true _ _ _ c.step.ensures.stepped _ c.in_ok-at.was

pub loop-at-preserved : goal.loop-at-preserved
loop-at-preserved c =
    let kept = c.step.ensures.kept in (
      kept.0 ∙ c.loop-at.invariant.0,
      kept.1 ∙ c.loop-at.invariant.1,
      rw (kept.0, kept.1) (going_on _ _ _ _ _ _ _ _ _ _ _ c.loop-at.invariant.2 c.loop-at-test.true _ _ _ c.step.ensures.stepped _ c.in_ok-at.was kept.2),
    )

pub returns : goal.returns
returns c = rw (← c.loop-at.invariant.0, ← c.loop-at.invariant.1) (walk_ends _ _ _ _ _ _ _ _ c.loop-at.invariant.2 c.loop-at-test.false)

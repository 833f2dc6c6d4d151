-- `batch::places::Held::cancel_answer`.
use Rattle.batch.proofs.ActionWays.{cancel_broken, cancel_live}
use Rattle.batch.proofs.places.Held.cancel_answer.Goals as goal

pub returns-in_err-check : goal.returns-in_err-check
returns-in_err-check c = cancel_broken _ _ _ _ c.check.ensures _ c.in_err-check.was _ c.from_residual.ensures.1

pub returns : goal.returns
returns c = cancel_live _ _ _ _ c.check.ensures _ c.in_ok-check.was _ c.live_answer.ensures

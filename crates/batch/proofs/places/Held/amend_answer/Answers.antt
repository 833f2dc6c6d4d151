-- `batch::places::Held::amend_answer`.
use Rattle.batch.proofs.ActionWays.{amend_broken, amend_live}
use Rattle.batch.proofs.places.Held.amend_answer.Goals as goal

pub returns-in_err-answer : goal.returns-in_err-answer
returns-in_err-answer c = amend_broken _ _ _ _ _ c.answer.ensures _ c.in_err-answer.was _ c.from_residual.ensures.1

pub returns : goal.returns
returns c = amend_live _ _ _ _ _ c.answer.ensures _ c.in_ok-answer.was _ c.field.ensures _ c.live_answer.ensures

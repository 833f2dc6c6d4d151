-- `batch::places::Held::action_answer`.
use mathlib.Core.Path.{ap}
use Rattle.batch.specs.Entries.{number_of_kind}
use Rattle.batch.proofs.ActionWays.{action_add, action_amend, action_cancel}
use Rattle.batch.proofs.places.Held.action_answer.Goals as goal

pub returns-in-Addition : goal.returns-in-Addition
returns-in-Addition c = action_add _ _ _ _ _ _ _ (ap number_of_kind c.in-Addition.is) c.add_answer.ensures

pub returns-in-Amendment : goal.returns-in-Amendment
returns-in-Amendment c = action_amend _ _ _ _ _ _ _ (ap number_of_kind c.in-Amendment.is) c.amend_answer.ensures

pub returns-in-Cancellation : goal.returns-in-Cancellation
returns-in-Cancellation c = action_cancel _ _ _ _ _ _ _ (ap number_of_kind c.in-Cancellation.is) c.cancel_answer.ensures

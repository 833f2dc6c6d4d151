-- `batch::undoing::cancellation_off`.
use Rattle.batch.proofs.UndoWays.{cancellation_off}
use Rattle.batch.proofs.undoing.cancellation_off.Goals as goal

pub returns : goal.returns
returns c = cancellation_off _ _ _ _ c.place_with.ensures _ c.unwrap-k.ensures c.of.result _ c.at.ensures c.of.ensures c.requires.holding.places _ _ _ c.one_revived-more.ensures c.put.ensures

-- `batch::undoing::amendment_off`.
use Rattle.batch.proofs.UndoWays.{amendment_off}
use Rattle.batch.proofs.undoing.amendment_off.Goals as goal

pub returns : goal.returns
returns c = amendment_off _ _ _ _ c.place_with.ensures _ c.unwrap-k.ensures c.of.result _ c.at.ensures c.of.ensures _ c.field.ensures c.of-2.result c.of-2.ensures _ _ _ c.amounts_replaced-amended.ensures c.put_line.ensures

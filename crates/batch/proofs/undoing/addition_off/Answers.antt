-- `batch::undoing::addition_off`.
use Rattle.batch.proofs.UndoWays.{place_cleared}
use Rattle.batch.proofs.undoing.addition_off.Goals as goal

pub returns : goal.returns
returns c = record { filed = place_cleared _ _ _ c.put.ensures; counted = rw (c.one_live_less-fewer.ensures, c.of.ensures.0, c.of.ensures.1) }

-- `batch::places::write_place`.
use Rattle.batch.proofs.ActionWays.{bytes_put}
use Rattle.batch.proofs.places.write_place.Goals as goal

pub returns : goal.returns
returns c = bytes_put _ _ _ _ c.requires.0 c.requires.1 c.copy.ensures

-- `batch::places::put`.
use Rattle.batch.proofs.ActionWays.{place_put}
use Rattle.batch.proofs.places.put.Goals as goal

pub returns : goal.returns
returns c = place_put _ _ _ _ c.requires.1 c.requires.2 _ c.write_place.ensures

-- `posting::repeated`.
use Rattle.posting.proofs.Ways.{repeated_is, now_noted}
use Rattle.posting.proofs.repeated.Goals as goal

pub returns : goal.returns
returns c = (repeated_is _ _ _ _ _ c.put.ensures c.requires _ c.is_some.ensures, now_noted _ _ _ _ _ c.put.ensures c.requires)

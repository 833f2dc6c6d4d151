-- `closing::closed`.
use Rattle.closing.proofs.Ways.{to_link}
use Rattle.closing.proofs.closed.Goals as goal

pub link_all-requires : goal.link_all-requires
link_all-requires g c = to_link _ _ _ c.requires.0 c.requires.1

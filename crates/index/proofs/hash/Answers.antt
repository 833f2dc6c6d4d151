-- `index::hash`.
use Rattle.std.proofs.Common.{rules}
use Rattle.index.proofs.Ways.{hash_is}
use Rattle.index.proofs.hash.Goals as goal

pub returns : goal.returns
returns c = (search hash_is, search rules)

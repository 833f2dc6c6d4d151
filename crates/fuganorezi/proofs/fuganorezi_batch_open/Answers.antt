-- `fuganorezi::fuganorezi_batch_open` meets its contract: what it answers is what the batch answered, in C's structs.
use borrow.Author.Rules.{rules}
use Rattle.fuganorezi.proofs.Ways.{told}
use Rattle.fuganorezi.proofs.fuganorezi_batch_open.Goals as goal

pub returns : goal.returns
returns c table = told (c.open.ensures table) (search rules)

-- `fuganorezi::fuganorezi_batch_add` meets its contract: what it answers is what the batch answered, in C's structs.
use Rattle.fuganorezi.proofs.Ways.{told_from}
use Rattle.fuganorezi.proofs.fuganorezi_batch_add.Goals as goal

pub returns : goal.returns
returns c = search told_from

-- `fuganorezi::fuganorezi_identifier_write` meets its contract: what was written is what the crate below wrote, its answer by value.
use Rattle.fuganorezi.proofs.Ways.{identifier_by_value}
use Rattle.fuganorezi.proofs.fuganorezi_identifier_write.Goals as goal

pub returns : goal.returns
returns c = search identifier_by_value

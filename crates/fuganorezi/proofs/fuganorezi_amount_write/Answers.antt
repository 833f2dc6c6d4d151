-- `fuganorezi::fuganorezi_amount_write` meets its contract: what was written is what the crate below wrote, its answer by value.
use Rattle.fuganorezi.proofs.Ways.{number_by_value}
use Rattle.fuganorezi.proofs.fuganorezi_amount_write.Goals as goal

pub returns : goal.returns
returns c = search number_by_value

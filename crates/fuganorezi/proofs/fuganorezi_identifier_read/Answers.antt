-- `fuganorezi::fuganorezi_identifier_read`.
use Rattle.fuganorezi.proofs.Ways.{right_by_value, refused_by_value}
use Rattle.fuganorezi.proofs.fuganorezi_identifier_read.Goals as goal

pub returns-in-Ok : goal.returns-in-Ok
returns-in-Ok c = search right_by_value

pub returns-in-Err : goal.returns-in-Err
returns-in-Err c = search refused_by_value

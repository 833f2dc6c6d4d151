-- `fuganorezi::fuganorezi_closing_check` meets its contract: what it tells are the numbers of the answer that it was given.
use Rattle.fuganorezi.proofs.Ways.{answered_as}
use Rattle.fuganorezi.proofs.fuganorezi_closing_check.Goals as goal

pub returns : goal.returns
returns c = search answered_as

-- `fuganorezi::outcome_of`.
use Rattle.fuganorezi.proofs.Ways.{counts_left}
use Rattle.fuganorezi.proofs.outcome_of.Goals as goal

pub returns : goal.returns
returns c = rw (c.from.ensures, c.unwrap_or.ensures, counts_left c.args.given c.args.got, c.from-answer.ensures)

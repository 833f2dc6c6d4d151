-- `psc::fill`.
use Rattle.psc.proofs.TextWays.{fill_fits, fill_on, fill_done}
use Rattle.psc.proofs.fill.Goals as goal

pub overflow_cast-table : goal.overflow_cast-table
overflow_cast-table c = search fill_fits

pub loop-i-preserved : goal.loop-i-preserved
loop-i-preserved c = search fill_on

pub returns : goal.returns
returns c = search fill_done

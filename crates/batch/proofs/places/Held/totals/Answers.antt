-- `batch::places::Held::totals`.
use Rattle.batch.proofs.StateWays.{totals_start, totals_on, totals_end}
use Rattle.batch.proofs.places.Held.totals.Goals as goal

pub loop-i-init : goal.loop-i-init
loop-i-init c = search totals_start

pub loop-i-preserved : goal.loop-i-preserved
loop-i-preserved c = search totals_on

pub returns : goal.returns
returns c = search totals_end

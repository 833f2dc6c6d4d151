-- `psc::find`.
use Rattle.std.proofs.Common.{arith}
use Rattle.psc.proofs.Ways.{look_first, look_none, look_on, look_inside, look_last}
use Rattle.psc.proofs.find.Goals as goal

pub loop-look-init : goal.loop-look-init
loop-look-init c = (omega arith, search look_first)

pub returns-then-high-low : goal.returns-then-high-low
returns-then-high-low c = search look_none

pub loop-look-preserved : goal.loop-look-preserved
loop-look-preserved c = (search look_inside, search look_on)

pub returns : goal.returns
returns c = search look_last

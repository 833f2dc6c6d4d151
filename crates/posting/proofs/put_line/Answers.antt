-- `posting::put_line`.
use native.Mathlib.Omega.{arith}
use Rattle.std.proofs.Common.{rules}
use mathlib.Core.Path.{refl}
use Rattle.posting.proofs.ReportWays.{room_number, put_room, put_on, put_done}
use Rattle.posting.proofs.put_line.Goals as goal

pub loop-i-init : goal.loop-i-init
loop-i-init c = (omega arith, refl)

pub put_number-at-requires : goal.put_number-at-requires
put_number-at-requires c = search (rules, room_number)

pub loop-i-preserved : goal.loop-i-preserved
loop-i-preserved c = (search (rules, put_room), search (rules, put_on))

pub returns : goal.returns
returns c = put_done c.args.numbers.now c.loop-i.out c.loop-i.i c.loop-i.at _ (omega arith) c.loop-i.invariant.1

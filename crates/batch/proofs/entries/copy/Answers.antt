-- `batch::entries::copy`.
use native.Mathlib.Omega.{arith}
use Rattle.batch.proofs.ActionWays.{copied_on, copied_all}
use Rattle.batch.proofs.entries.copy.Goals as goal

pub loop-i-preserved : goal.loop-i-preserved
loop-i-preserved c = rw c.loop-i.invariant (copied_on c.args.part.now c.args.bytes.now c.loop-i.i (omega arith) (omega arith))

pub returns : goal.returns
returns c = copied_all _ _ _ c.loop-i.i c.requires (omega arith) c.loop-i.invariant

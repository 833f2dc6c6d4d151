-- `batch::undoing::record_before`.
use Prim.Native.Nat.{◌-◌}
use Rattle.batch.proofs.UndoWays.{Looking}
use Rattle.batch.proofs.undoing.record_before.Given as goal

abbrev pub invariant-loop-at : goal.invariant-loop-at
invariant-loop-at l = Looking l.journal l.end l.id l.found l.at

abbrev pub decreases-loop-at : goal.decreases-loop-at
decreases-loop-at l = l.end - l.at

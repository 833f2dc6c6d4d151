-- `batch::test::Walk::through`.
use Prim.Native.Nat.{◌-◌}
use mathlib.Core.Path.{◌≡◌}
use Rattle.psc.specs.Search.{found}
use Rattle.batch.proofs.WalkWays.{Going}
use Rattle.batch.proofs.test.Walk.through.Given as goal

abbrev pub invariant-loop-at : goal.invariant-loop-at
invariant-loop-at l =
    (l.self.file.now ≡ l.initial.self.file.now)
    × (l.self.psc.now ≡ l.initial.self.psc.now)
    × Going (found l.self.psc.now) l.self.file.now l.journal l.end l.initial.self.marks.now l.initial.self.table.now l.self.marks.now l.self.table.now l.at.held l.at.seen l.at.used l.at.last

abbrev pub decreases-loop-at : goal.decreases-loop-at
decreases-loop-at l = l.end - l.at.used

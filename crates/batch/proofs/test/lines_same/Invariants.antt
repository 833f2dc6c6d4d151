-- `batch::test::lines_same`.
use Prim.Native.Nat.{ℕ, ◌<◌}
use Rattle.batch.specs.Test.{LineAt}
use Rattle.batch.proofs.test.lines_same.Given as goal

abbrev pub invariant-loop-k : goal.invariant-loop-k
invariant-loop-k l = (i : ℕ) → i < l.k → LineAt l.file l.journal l.marks i

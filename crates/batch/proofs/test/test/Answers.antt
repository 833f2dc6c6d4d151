-- `batch::test::test`.
use native.Mathlib.Omega.{arith}
use Rattle.batch.proofs.TestedWays.{few_places}
use Rattle.batch.proofs.test.test.Goals as goal

pub test_in-requires-else-places-lt256 : goal.test_in-requires-else-places-lt256
test_in-requires-else-places-lt256 c = let few = few_places _ _ c.requires in (c.requires, omega (arith, few), omega (arith, few), omega arith, omega arith)

-- `batch::test::test_in`.
use native.Mathlib.Omega.{arith}
use Rattle.batch.proofs.TestedWays.{fresh}
use Rattle.batch.proofs.test.test_in.Goals as goal

pub whole_as_slice-test_with : goal.whole_as_slice-test_with
whole_as_slice-test_with g c = omega (arith, c.requires.3)

pub whole_as_slice-test_with-2 : goal.whole_as_slice-test_with-2
whole_as_slice-test_with-2 g c = omega (arith, c.requires.4)

pub test_with-requires : goal.test_with-requires
test_with-requires g c = fresh _ _ _ _ c.requires.0 c.requires.1 c.requires.2

-- `batch::test::lines_same`.
use native.Mathlib.Omega.{arith}
use Rattle.batch.proofs.LineWays.{lines_fail, lines_on, lines_end}
use Rattle.batch.proofs.test.lines_same.Goals as goal

pub loop-k-init : goal.loop-k-init
loop-k-init c = λ i h. absurd (omega (arith, h))

pub returns-then-not-line_same : goal.returns-then-not-line_same
returns-then-not-line_same c = search lines_fail

pub loop-k-preserved : goal.loop-k-preserved
loop-k-preserved c = search lines_on

pub returns : goal.returns
returns c = search lines_end

-- `batch::places::Held::place_with`.
use native.Mathlib.Omega.{arith}
use mathlib.Core.Path.{refl}
use Rattle.batch.proofs.ActionWays.{seek_found, seek_on, seek_none}
use Rattle.batch.proofs.places.Held.place_with.Goals as goal

pub loop-k-init : goal.loop-k-init
loop-k-init c = refl

pub returns-then-same : goal.returns-then-same
returns-then-same c = (search seek_found, omega (arith, c.loop-k-test.true))

pub loop-k-preserved : goal.loop-k-preserved
loop-k-preserved c = search seek_on

pub returns : goal.returns
returns c = (search seek_none, omega arith)

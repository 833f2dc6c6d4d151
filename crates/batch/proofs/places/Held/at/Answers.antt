-- `batch::places::Held::at`.
use native.Mathlib.Omega.{arith}
use mathlib.Core.Path.{◌≡◌}
use Prim.Native.Nat.{◌+◌, ◌-◌, ◌*◌}
use Rattle.batch.proofs.places.Held.at.Goals as goal

pub returns : goal.returns
returns c = let long : c.args.k * 401 + 399 - c.args.k * 401 ≡ 399 = omega arith in rw long

-- `closing::records::Records::at`.
use native.Mathlib.Omega.{arith}
use mathlib.Core.Path.{◌≡◌}
use Prim.Native.Nat.{◌+◌, ◌-◌, ◌*◌}
use Rattle.closing.proofs.records.Records.at.Goals as goal

pub returns : goal.returns
returns c = let long : c.args.i * 401 + 399 - c.args.i * 401 ≡ 399 = omega arith in rw long

-- `index::Keyed::place`.
use Rattle.std.proofs.Common.{arith}
use Rattle.index.proofs.Keyed.place.Goals as goal

pub returns : goal.returns
returns c = omega (arith, c.in_ok-i.ensures.0)

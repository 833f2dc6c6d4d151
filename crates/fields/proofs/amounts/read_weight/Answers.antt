-- `fields::amounts::read_weight`.
use Rattle.std.proofs.Common.{rules}
use Rattle.fields.proofs.Frames.{framed_is}
use Rattle.fields.proofs.amounts.read_weight.Goals as goal

pub returns : goal.returns
returns c = framed_is _ _ _ _ c.framed.ensures _ _ (λ o long p. search rules)

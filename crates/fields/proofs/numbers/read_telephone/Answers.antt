-- `fields::numbers::read_telephone`.
use Rattle.std.proofs.Common.{rules, arith}
use Rattle.text.proofs.Numbers.{few}
use Rattle.fields.proofs.Frames.{framed_is}
use Rattle.fields.proofs.numbers.read_telephone.Goals as goal

pub returns : goal.returns
returns c = framed_is _ _ _ _ c.framed.ensures _ _ (λ o long p. let some = few c.args.f.now 1 13 (omega arith) in search rules)

-- `fields::numbers::read_digits`.
use Rattle.std.proofs.Common.{rules, arith}
use Rattle.text.proofs.Numbers.{few_digits}
use Rattle.fields.proofs.Frames.{framed_is}
use Rattle.fields.proofs.numbers.read_digits.Goals as goal

pub returns : goal.returns
returns c = framed_is _ _ _ _ c.framed.ensures _ _ (λ o long p. let few = few_digits 16 c.args.f.now (omega arith) in search rules)

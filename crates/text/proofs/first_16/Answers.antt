-- `text::first_16`.
use native.Mathlib.Omega.{arith}
use mathlib.Core.Path.{refl, sym}
use lib.Seq.{take_all, length-take-le}
use Rattle.text.proofs.first_16.Goals as goal

pub returns-then-s-gt16 : goal.returns-then-s-gt16
returns-then-s-gt16 c = (refl, omega (arith, length-take-le 16 c.args.s.now (omega arith)))

pub returns-else-s-gt16 : goal.returns-else-s-gt16
returns-else-s-gt16 c = (sym (take_all 16 c.args.s.now (omega arith)), omega arith)

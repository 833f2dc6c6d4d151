-- `text::all_digits`.
use mathlib.Core.Path.{refl}
use Rattle.text.specs.Bytes.{is_digit}
use Rattle.text.proofs.Loops.{seen_on, seen_all}
use Rattle.text.proofs.all_digits.Goals as goal

pub loop-b-init : goal.loop-b-init
loop-b-init c = refl

pub loop-b-preserved : goal.loop-b-preserved
loop-b-preserved c = search (seen_on is_digit)

pub returns : goal.returns
returns c = search (seen_all is_digit)

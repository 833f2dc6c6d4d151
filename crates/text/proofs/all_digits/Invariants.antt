-- `text::all_digits`.
use mathlib.Core.Path.{◌≡◌}
use mathlib.Core.Bool.{◌&&◌}
use lib.ListN.{drop}
use Rattle.text.specs.Bytes.{all_digits}
use Rattle.text.proofs.all_digits.Given as goal

abbrev pub invariant-loop-b : goal.invariant-loop-b
invariant-loop-b l = (l.good && all_digits (drop l.b-index l.s)) ≡ all_digits l.s

-- `text::number`.
use mathlib.Core.Path.{◌≡◌}
use Prim.Native.Nat.{◌+◌, ◌*◌, ◌≤◌}
use lib.ListN.{drop}
use Rattle.text.specs.Numbers.{number_after, number_of}
use Rattle.text.proofs.Numbers.{ten}
use Rattle.text.proofs.number.Given as goal

abbrev pub invariant-loop-b : goal.invariant-loop-b
invariant-loop-b l = (9 * l.n + 207 ≤ 207 * ten l.b-index) × (number_after l.n (drop l.b-index l.b-items) ≡ number_of l.b-items)

-- `text::put_digits`.
use mathlib.Core.Path.{◌≡◌}
use mathlib.Core.List.{◌++◌}
use Prim.Native.Nat.{◌≤◌}
use lib.ListN.{length, drop}
use Rattle.text.specs.Numbers.{digits}
use Rattle.text.proofs.put_digits.Given as goal

abbrev pub invariant-loop-i : goal.invariant-loop-i
invariant-loop-i l = (l.i ≤ length l.part) × (length l.part ≡ length l.initial.part) × (digits l.i l.rest ++ drop l.i l.part ≡ digits (length l.initial.part) l.n)

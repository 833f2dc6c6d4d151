-- `posting::put_line`.
use mathlib.Core.Path.{◌≡◌}
use Prim.Native.Nat.{◌+◌, ◌≤◌}
use lib.ListN.{length, drop}
use Rattle.text.specs.Lists.{overlay}
use Rattle.posting.specs.Report.{line}
use Rattle.posting.proofs.put_line.Given as goal

abbrev pub invariant-loop-i : goal.invariant-loop-i
invariant-loop-i l = (l.at + length (line (drop l.i l.numbers)) ≤ length l.out) × (overlay l.out l.at (line (drop l.i l.numbers)) ≡ overlay l.initial.out 0 (line l.numbers))

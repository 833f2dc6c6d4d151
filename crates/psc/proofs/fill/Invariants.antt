-- `psc::fill`.
use Rattle.std.proofs.Common.{◌≡◌}
use Rattle.std.proofs.Math.Seq.{paste}
use Rattle.psc.specs.Text.{table_in}
use Rattle.psc.proofs.fill.Given as goal

abbrev pub invariant-loop-i : goal.invariant-loop-i
invariant-loop-i l = l.table ≡ paste l.initial.table 0 (table_in l.text) l.i

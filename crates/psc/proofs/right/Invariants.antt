-- `psc::right`.
use Rattle.std.proofs.Common.{◌≡◌}
use Rattle.psc.proofs.Ways.{right_left}
use Rattle.psc.proofs.right.Given as goal

abbrev pub invariant-loop-pair : goal.invariant-loop-pair
invariant-loop-pair l = (l.pair-iterator.size ≡ 2) × right_left l.rises l.pair-iterator.rest.now l.table l.highest

-- `posting::checked`.
use mathlib.Core.Path.{◌≡◌}
use Rattle.psc.specs.Search.{found}
use Rattle.posting.specs.File.{totals_over}
use Rattle.posting.proofs.Ways.{SoFar}
use Rattle.posting.proofs.checked.Given as goal

abbrev pub invariant-loop-i : goal.invariant-loop-i
invariant-loop-i l = (l.totals ≡ totals_over l.file l.i) × SoFar (found l.psc) l.file l.i l.initial.table l.table l.seen

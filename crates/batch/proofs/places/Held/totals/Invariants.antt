-- `batch::places::Held::totals`.
use mathlib.Core.Path.{◌≡◌}
use Rattle.posting.specs.File.{totals_over}
use Rattle.batch.proofs.places.Held.totals.Given as goal

abbrev pub invariant-loop-i : goal.invariant-loop-i
invariant-loop-i l = l.t ≡ totals_over l.self.file.now l.i

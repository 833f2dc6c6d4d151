-- `batch::places::Held::place_with`.
use mathlib.Core.Path.{◌≡◌}
use Rattle.batch.specs.Places.{record_number}
use Rattle.batch.proofs.places.Held.place_with.Given as goal

abbrev pub invariant-loop-k : goal.invariant-loop-k
invariant-loop-k l = record_number l.file l.id l.k ≡ record_number l.file l.id l.n

-- `fields::texts::filled`.
use Rattle.std.proofs.Common.{◌≡◌, ◌≤◌, length}
use Rattle.fields.specs.Texts.{filled}
use Rattle.fields.proofs.texts.filled.Given as goal

abbrev pub invariant-loop-before : goal.invariant-loop-before
invariant-loop-before l = (filled l.front ≡ filled l.f) × (length l.front ≤ length l.f)

abbrev pub decreases-loop-before : goal.decreases-loop-before
decreases-loop-before l = length l.front

abbrev pub invariant-loop-last : goal.invariant-loop-last
invariant-loop-last l = (filled l.front ≡ filled l.f) × (length l.front ≤ length l.f)

abbrev pub decreases-loop-last : goal.decreases-loop-last
decreases-loop-last l = length l.front

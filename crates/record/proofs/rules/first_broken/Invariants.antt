-- `record::rules::first_broken`.
use Rattle.std.proofs.Common.{◌≡◌, drop}
use Rattle.record.specs.Table.{first_broken}
use Rattle.record.proofs.rules.first_broken.Given as goal

abbrev pub invariant-loop-broken : goal.invariant-loop-broken
invariant-loop-broken l = first_broken (drop l.broken-index l.table) ≡ first_broken l.table

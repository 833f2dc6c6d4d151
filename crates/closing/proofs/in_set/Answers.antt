-- `closing::in_set`.
use Rattle.std.proofs.Common.{rules}
use Rattle.closing.proofs.Ways.{in_none, in_live}
use Rattle.closing.proofs.in_set.Goals as goal

pub returns-then-not-blank : goal.returns-then-not-blank
returns-then-not-blank c = search (in_live, rules)

pub returns-else-not-blank : goal.returns-else-not-blank
returns-else-not-blank c = search (in_none, rules)

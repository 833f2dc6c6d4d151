-- `closing::links::link_all`.
use Rattle.closing.proofs.LinkWays.{LinkedTo}
use Rattle.closing.proofs.links.link_all.Given as goal

abbrev pub invariant-loop-i : goal.invariant-loop-i
invariant-loop-i l = LinkedTo l.records.file.now l.i l.initial.table l.initial.links l.table l.links

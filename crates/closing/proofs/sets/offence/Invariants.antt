-- `closing::sets::offence`.
use Rattle.closing.proofs.LinkWays.{Below}
use Rattle.posting.specs.File.{records_in}
use Rattle.closing.proofs.SetWays.{LookingFrom, steps}
use Rattle.closing.proofs.sets.offence.Given as goal

abbrev pub invariant-loop-next : goal.invariant-loop-next
invariant-loop-next l = Below (records_in l.records.file.now) l.next × LookingFrom l.records.file.now l.fn.last l.pieces l.next l.twice l.seen

abbrev pub decreases-loop-next : goal.decreases-loop-next
decreases-loop-next l = steps l.next

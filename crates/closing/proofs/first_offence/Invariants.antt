-- `closing::first_offence`.
use Rattle.closing.specs.Links.{WholeBefore}
use Rattle.closing.proofs.first_offence.Given as goal

abbrev pub invariant-loop-i : goal.invariant-loop-i
invariant-loop-i l = WholeBefore l.records.file.now l.i

-- `ident::same`.
use Rattle.ident.proofs.Comparing.{other_length, eights_differ, eights_then_front}
use Rattle.ident.proofs.same.Goals as goal

pub returns-then-a-b : goal.returns-then-a-b
returns-then-a-b c = search other_length

pub returns-then-same_eights : goal.returns-then-same_eights
returns-then-same_eights c = search eights_then_front

pub returns-else-same_eights : goal.returns-else-same_eights
returns-else-same_eights c = search eights_differ

-- `run_judged::histories::answer_calls`: the entries that hold are within the lent table, and each call leaves fewer bytes of the history.
use Rattle.std.proofs.Common.{◌≤◌, length}
use Rattle.run_judged.proofs.histories.answer_calls.Given as goal

abbrev pub invariant-loop-item : goal.invariant-loop-item
invariant-loop-item g l = l.entries ≤ length l.table

abbrev pub decreases-loop-item : goal.decreases-loop-item
decreases-loop-item g l = l.item.left

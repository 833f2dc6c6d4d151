-- `closing::check`.
use Rattle.std.proofs.Common.{rules}
use Rattle.closing.proofs.Ways.{file_stands, accepted_whole, no_sets, sets_whole, set_broken}
use Rattle.closing.proofs.check.Goals as goal

pub returns-in_err-totals : goal.returns-in_err-totals
returns-in_err-totals c = file_stands _ _ _ c.check.ensures _ c.in_err-totals.was _ (search rules)

pub invariant_of-records : goal.invariant_of-records
invariant_of-records c = let known = accepted_whole _ _ _ c.check.ensures _ c.in_ok-totals.was in record { whole = known.0; few = known.1 }

pub returns-then-not-any_in_set : goal.returns-then-not-any_in_set
returns-then-not-any_in_set c = no_sets _ _ _ c.check.ensures _ c.in_ok-totals.was (search rules)

pub returns-in_err-closed : goal.returns-in_err-closed
returns-in_err-closed c = set_broken _ _ _ c.check.ensures _ c.in_ok-totals.was _ c.closed.ensures _ c.in_err-closed.was _ (search rules)

pub returns-in_err-closed-2 : goal.returns-in_err-closed-2
returns-in_err-closed-2 c = set_broken _ _ _ c.check.ensures _ c.in_ok-totals.was _ c.closed-else-len-lt64.ensures _ c.in_err-closed-2.was _ (search rules)

pub returns-in_ok-closed : goal.returns-in_ok-closed
returns-in_ok-closed c = sets_whole _ _ _ c.check.ensures _ c.in_ok-totals.was _ c.closed.ensures _ c.in_ok-closed.was

pub returns-in_ok-closed-2 : goal.returns-in_ok-closed-2
returns-in_ok-closed-2 c = sets_whole _ _ _ c.check.ensures _ c.in_ok-totals.was _ c.closed-else-len-lt64.ensures _ c.in_ok-closed-2.was

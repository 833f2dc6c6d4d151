-- `batch::perform`.
use Rattle.batch.proofs.CallWays.{guard_ready, kind_refuses, kind_done}
use Rattle.batch.proofs.perform.Goals as goal

pub returns-in_err-found : goal.returns-in_err-found
returns-in_err-found c = kind_refuses _ _ _ _ _ c.guard.ensures _ _ _ c.in_err-found.was _ c.from_residual.ensures.1

pub enter-requires : goal.enter-requires
enter-requires c = guard_ready _ _ _ _ _ c.guard.ensures _ c.in_ok-found.was

pub returns : goal.returns
returns c = kind_done _ _ _ _ _ c.guard.ensures _ _ _ c.in_ok-found.was _ _ _ c.enter.ensures

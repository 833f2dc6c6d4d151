-- `posting::put_number`.
use native.Mathlib.Omega.{arith}
use Rattle.posting.proofs.ReportWays.{number_put}
use Rattle.posting.proofs.put_number.Goals as goal

pub returns : goal.returns
returns c = (search number_put, omega arith)

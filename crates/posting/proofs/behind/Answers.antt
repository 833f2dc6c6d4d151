-- `posting::behind`.
use Rattle.std.proofs.Common.{rules}
use Rattle.posting.proofs.ReportWays.{behind_more}
use Rattle.posting.proofs.behind.Goals as goal

pub returns-then-i-lt7 : goal.returns-then-i-lt7
returns-then-i-lt7 c = search (rules, behind_more)

-- `record::judge`.
use Rattle.std.proofs.Common.{rules}
use Rattle.record.proofs.FineLaws.{judged_wide}
use Rattle.record.proofs.judge.Goals as goal

pub returns-in_default : goal.returns-in_default
returns-in_default c = judged_wide _ c.args.rec.now (search rules)

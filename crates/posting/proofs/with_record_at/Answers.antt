-- `posting::with_record_at`.
use Rattle.std.proofs.Common.{◌≡◌, ◌+◌, ◌*◌, ◌-◌, arith}
use Rattle.posting.proofs.with_record_at.Goals as goal

pub returns : goal.returns
returns c = let wide : c.args.i * 401 + 399 - c.args.i * 401 ≡ 399 = omega arith in rw wide at c.with_record.ensures

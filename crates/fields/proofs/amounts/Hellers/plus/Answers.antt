-- `fields::Hellers/plus`.
use Rattle.fields.proofs.AmountWays.{sum_is}
use Rattle.fields.proofs.amounts.Hellers.plus.Goals as goal

pub returns : goal.returns
returns c = sum_is c.args.self c.args.other c.checked_add.result c.map.result c.checked_add.ensures c.map.ensures.cases

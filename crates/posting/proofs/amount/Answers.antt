-- `posting::amount`.
use Rattle.posting.proofs.Amounts.{amount_is}
use Rattle.posting.proofs.amount.Goals as goal

pub returns : goal.returns
returns c = amount_is _ _ _ _ _ _ c.field.ensures c.read_money.ensures c.value.ensures c.unwrap_or.ensures

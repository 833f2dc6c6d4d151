-- `fields::amounts::<Hellers as Amount<MONEY_WIDTH>>::put`.
use borrow.Author.Rules.{rules}
use Rattle.fields.proofs.AmountWays.{crowns_nine, money_put}
use Rattle.fields.proofs.amounts.HellersAmountMONEY_WIDTH.put.Goals as goal

pub put_crowns_and_hellers-requires : goal.put_crowns_and_hellers-requires
put_crowns_and_hellers-requires c = search (crowns_nine, rules)

pub returns : goal.returns
returns c = search (money_put, c.fill.ensures.after (λ y e. e))

-- `fields::amounts::<Grams as Amount<WEIGHT_WIDTH>>::put`.
use Rattle.fields.proofs.AmountWays.{weight_put}
use Rattle.fields.proofs.amounts.GramsAmountWEIGHT_WIDTH.put.Goals as goal

pub returns : goal.returns
returns c = search weight_put
